-- The fields of an area are read back, and one of them is written anew. Assumes nothing.
use Rattle.std.specs.Prelude.{◌≡◌, List, [], ◌∷◌, ℕ, zero, suc, ◌+◌, ◌*◌, ◌≤◌, ◌<◌, length, get_or, set}
use Rattle.std.proofs.Math.Path.{refl, sym}
use Rattle.std.proofs.Common.{ap, ap₂, ◌∙◌, arith, add-zero}
use Rattle.layout.specs.Patch.{patch, part, is_part, part_at, part-more, part_none, patch-same, patch-cell}
use Rattle.layout.specs.Fields.{Field, field, lay, Fits, In, here, there, lay_long, lay-read, lay-same, lay_again}
use Rattle.layout.specs.Change.{swap, lay-swap, swap-fits}
use Rattle.move_area.specs.Bodies.{lane_at, atom_at, Header, numbers, Bodies, fields_of, write, Sized}

pub write_long : (n : ℕ) (b : Bodies) (l : List ℕ) → length (write n b l) ≡ length l
unfolding write
write_long n b l = lay_long (fields_of n b) l

pub fields_fit : (n a : ℕ) (b : Bodies) → Sized n a b → Fits 0 (fields_of n b) (atom_at n + a)
fields_fit n a b v =
    (omega arith, (omega (arith, v.edges), (omega arith, (omega (arith, v.few, v.words 0 (omega arith)), (omega (arith, v.few, v.words 1 (omega arith)), (omega (arith, v.few, v.words 2 (omega arith)), (omega (arith, v.few, v.words 3 (omega arith)), (omega (arith, v.few, v.words 4 (omega arith)), (omega (arith, v.few, v.words 5 (omega arith)), (omega (arith, v.few, v.words 6 (omega arith)), (omega (arith, v.few, v.words 7 (omega arith)), (omega (arith, v.counts), (omega (arith, v.marks), (omega (arith, v.component), omega (arith, v.nodes)))))))))))))))

-- each field stands in the area that was written
module _ (n a : ℕ) (b : Bodies) (v : Sized n a b) (l : List ℕ) (room : atom_at n + a ≤ length l) where
  reads : (f : Field) → In f (fields_of n b) → part f.at (length f.body) (write n b l) ≡ f.body
  unfolding write
  reads f i = lay-read (fields_of n b) 0 (atom_at n + a) l (fields_fit n a b v) room f i

  pub read-edges : part 0 (n * n) (write n b l) ≡ b.edges
  read-edges = rw v.edges at (reads (field 0 b.edges) here)

  pub read_header : (i : ℕ) → i < 5 → get_or (write n b l) (n * n + i) 0 ≡ get_or (numbers b.header) i 0
  read_header i h = sym (part_at (n * n) 5 (write n b l) i h) ∙ ap (λ (u : List ℕ). get_or u i 0) (reads (field (n * n) (numbers b.header)) (there here))

  pub read-registered : get_or (write n b l) (n * n) 0 ≡ b.header.registered
  read-registered = rw add-zero at (read_header 0 (omega arith))

  pub read_counter : get_or (write n b l) (n * n + 1) 0 ≡ b.header.counter
  read_counter = read_header 1 (omega arith)

  pub read_acyclic : get_or (write n b l) (n * n + 2) 0 ≡ b.header.acyclic
  read_acyclic = read_header 2 (omega arith)

  pub read-occupied : get_or (write n b l) (n * n + 3) 0 ≡ b.header.occupied
  read-occupied = read_header 3 (omega arith)

  pub read-distinct : get_or (write n b l) (n * n + 4) 0 ≡ b.header.distinct
  read-distinct = read_header 4 (omega arith)

  lane : (j : ℕ) → j < 8 → In (field (lane_at n j) (b.words j)) (fields_of n b) → part (lane_at n j) b.header.registered (write n b l) ≡ b.words j
  lane j h i = rw (v.words j h) at (reads (field (lane_at n j) (b.words j)) i)

  pub read-words : (j : ℕ) → j < 8 → part (lane_at n j) b.header.registered (write n b l) ≡ b.words j
  read-words zero h = lane 0 h (there (there here))
  read-words (suc zero) h = lane 1 h (there (there (there here)))
  read-words (suc (suc zero)) h = lane 2 h (there (there (there (there here))))
  read-words (suc (suc (suc zero))) h = lane 3 h (there (there (there (there (there here)))))
  read-words (suc (suc (suc (suc zero)))) h = lane 4 h (there (there (there (there (there (there here))))))
  read-words (suc (suc (suc (suc (suc zero))))) h = lane 5 h (there (there (there (there (there (there (there here)))))))
  read-words (suc (suc (suc (suc (suc (suc zero)))))) h = lane 6 h (there (there (there (there (there (there (there (there here))))))))
  read-words (suc (suc (suc (suc (suc (suc (suc zero))))))) h = lane 7 h (there (there (there (there (there (there (there (there (there here)))))))))
  read-words (suc (suc (suc (suc (suc (suc (suc (suc j)))))))) h = absurd (omega arith)

  pub read-counts : part (lane_at n 8) n (write n b l) ≡ b.counts
  read-counts = rw v.counts at (reads (field (lane_at n 8) b.counts) (there (there (there (there (there (there (there (there (there (there here)))))))))))

  pub read-marks : part (lane_at n 9) n (write n b l) ≡ b.marks
  read-marks = rw v.marks at (reads (field (lane_at n 9) b.marks) (there (there (there (there (there (there (there (there (there (there (there here))))))))))))

  pub read_component : part (lane_at n 10) n (write n b l) ≡ b.component
  read_component = rw v.component at (reads (field (lane_at n 10) b.component) (there (there (there (there (there (there (there (there (there (there (there (there here)))))))))))))

  pub read-nodes : part (atom_at n) a (write n b l) ≡ b.nodes
  read-nodes = rw v.nodes at (reads (field (atom_at n) b.nodes) (there (there (there (there (there (there (there (there (there (there (there (there (there here))))))))))))))

-- one number of a list that stands there is set
pub set-field : (at : ℕ) (v l : List ℕ) (i x : ℕ) → part at (length v) l ≡ v → i < length v → at + length v ≤ length l → set l (at + i) x ≡ patch at (set v i x) l
set-field at v l i x e h b = ap (λ (u : List ℕ). set u (at + i) x) (sym (patch-same at v l e)) ∙ patch-cell at v l i x h b

-- one number of the header is set
pub set_header : (n a : ℕ) (b : Bodies) → Sized n a b → (l : List ℕ) → atom_at n + a ≤ length l → (i x : ℕ) → i < 5
    → set (write n b l) (n * n + i) x ≡ patch (n * n) (set (numbers b.header) i x) (write n b l)
set_header n a b v l room i x h =
    set-field (n * n) (numbers b.header) (write n b l) i x (is_part (n * n) (write n b l) (numbers b.header) (λ k z. read_header n a b v l room k z)) h (omega (arith, write_long n b l))

-- written twice is written once
pub write_again : (n a : ℕ) (b : Bodies) → Sized n a b → (l : List ℕ) → atom_at n + a ≤ length l → write n b (write n b l) ≡ write n b l
unfolding write
write_again n a b v l room = lay_again (fields_of n b) 0 (atom_at n + a) l (fields_fit n a b v) room

-- each field stands in l
data Stand (l : List ℕ) : List Field → Type 0 where
  none : Stand l []
  next : {f : Field} {fs : List Field} → part f.at (length f.body) l ≡ f.body → Stand l fs → Stand l (f ∷ fs)

stands : {l : List ℕ} {fs : List Field} → Stand l fs → (f : Field) → In f fs → part f.at (length f.body) l ≡ f.body
stands {l = l} none f x3 = elim x3 [ ]
stands (next h s) _ (here) = h
stands (next h s) f (there i) = stands s f i

-- the numbers of a header stand in l
pub record HeaderIn (n : ℕ) (l : List ℕ) (h : Header) : Type 0 where
  pub registered : get_or l (n * n) 0 ≡ h.registered
  pub counter : get_or l (n * n + 1) 0 ≡ h.counter
  pub acyclic : get_or l (n * n + 2) 0 ≡ h.acyclic
  pub occupied : get_or l (n * n + 3) 0 ≡ h.occupied
  pub distinct : get_or l (n * n + 4) 0 ≡ h.distinct

pub header_part : {n : ℕ} {l : List ℕ} {h : Header} → HeaderIn n l h → part (n * n) 5 l ≡ numbers h
header_part {n} {l} {h} s =
    part-more (n * n) 4 l ∙ ap₂ {A = ℕ} {B = List ℕ} ◌∷◌ s.registered
    (part-more (n * n + 1) 3 l ∙ ap₂ {A = ℕ} {B = List ℕ} ◌∷◌ s.counter
    (part-more (n * n + 1 + 1) 2 l ∙ ap₂ {A = ℕ} {B = List ℕ} ◌∷◌ (let z : n * n + 1 + 1 ≡ n * n + 2 = omega arith in rw z s.acyclic)
    (part-more (n * n + 1 + 1 + 1) 1 l ∙ ap₂ {A = ℕ} {B = List ℕ} ◌∷◌ (let z : n * n + 1 + 1 + 1 ≡ n * n + 3 = omega arith in rw z s.occupied)
    (part-more (n * n + 1 + 1 + 1 + 1) 0 l ∙ ap₂ {A = ℕ} {B = List ℕ} ◌∷◌ (let z : n * n + 1 + 1 + 1 + 1 ≡ n * n + 4 = omega arith in rw z s.distinct) (part_none _ l)))))

-- an area's own fields, written over it, change nothing
pub write_same : (n a : ℕ) (l : List ℕ) (b : Bodies) → Sized n a b → part 0 (n * n) l ≡ b.edges → HeaderIn n l b.header
    → ((j : ℕ) → j < 8 → part (lane_at n j) b.header.registered l ≡ b.words j) → part (lane_at n 8) n l ≡ b.counts
    → part (lane_at n 9) n l ≡ b.marks → part (lane_at n 10) n l ≡ b.component → part (atom_at n) a l ≡ b.nodes → write n b l ≡ l
unfolding write
write_same n a l b v e h w k m o p = lay-same (fields_of n b) l (stands all)
  where
    word : (j : ℕ) → j < 8 → part (lane_at n j) (length (b.words j)) l ≡ b.words j
    word j h = rw (v.words j h) (w j h)

    all : Stand l (fields_of n b)
    all =
        next {f = field (0) b.edges} (rw v.edges e)
        (next {f = field (n * n) (numbers b.header)} (header_part h)
        (next {f = field (lane_at n 0) (b.words 0)} (word 0 (omega arith))
        (next {f = field (lane_at n 1) (b.words 1)} (word 1 (omega arith))
        (next {f = field (lane_at n 2) (b.words 2)} (word 2 (omega arith))
        (next {f = field (lane_at n 3) (b.words 3)} (word 3 (omega arith))
        (next {f = field (lane_at n 4) (b.words 4)} (word 4 (omega arith))
        (next {f = field (lane_at n 5) (b.words 5)} (word 5 (omega arith))
        (next {f = field (lane_at n 6) (b.words 6)} (word 6 (omega arith))
        (next {f = field (lane_at n 7) (b.words 7)} (word 7 (omega arith))
        (next {f = field (lane_at n 8) b.counts} (rw v.counts k)
        (next {f = field (lane_at n 9) b.marks} (rw v.marks m)
        (next {f = field (lane_at n 10) b.component} (rw v.component o)
        (next {f = field (atom_at n) b.nodes} (rw v.nodes p) none)))))))))))))

-- one field written anew
module _ (n a : ℕ) (b : Bodies) (v : Sized n a b) (l : List ℕ) where
  renew : {f : Field} (i : In f (fields_of n b)) (w : List ℕ) → length w ≡ length f.body → patch f.at w (write n b l) ≡ lay (swap (fields_of n b) i w) l
  unfolding write
  renew i w e = lay-swap (fields_of n b) 0 (atom_at n + a) l i w (swap-fits (fields_of n b) 0 (atom_at n + a) i w (fields_fit n a b v) e) (omega arith)

  pub renew_edges : (w : List ℕ) → length w ≡ n * n → patch (0) w (write n b l) ≡ write n (record { edges = w; header = b.header; words = b.words; counts = b.counts; marks = b.marks; component = b.component; nodes = b.nodes }) l
  unfolding write swap
  renew_edges w e = renew here w (e ∙ sym v.edges)

  pub renew_counts : (w : List ℕ) → length w ≡ n → patch (lane_at n 8) w (write n b l) ≡ write n (record { edges = b.edges; header = b.header; words = b.words; counts = w; marks = b.marks; component = b.component; nodes = b.nodes }) l
  unfolding write swap
  renew_counts w e = renew (there (there (there (there (there (there (there (there (there (there here)))))))))) w (e ∙ sym v.counts)

  pub renew_marks : (w : List ℕ) → length w ≡ n → patch (lane_at n 9) w (write n b l) ≡ write n (record { edges = b.edges; header = b.header; words = b.words; counts = b.counts; marks = w; component = b.component; nodes = b.nodes }) l
  unfolding write swap
  renew_marks w e = renew (there (there (there (there (there (there (there (there (there (there (there here))))))))))) w (e ∙ sym v.marks)

  pub renew_component : (w : List ℕ) → length w ≡ n → patch (lane_at n 10) w (write n b l) ≡ write n (record { edges = b.edges; header = b.header; words = b.words; counts = b.counts; marks = b.marks; component = w; nodes = b.nodes }) l
  unfolding write swap
  renew_component w e = renew (there (there (there (there (there (there (there (there (there (there (there (there here)))))))))))) w (e ∙ sym v.component)

  pub renew_nodes : (w : List ℕ) → length w ≡ a → patch (atom_at n) w (write n b l) ≡ write n (record { edges = b.edges; header = b.header; words = b.words; counts = b.counts; marks = b.marks; component = b.component; nodes = w }) l
  unfolding write swap
  renew_nodes w e = renew (there (there (there (there (there (there (there (there (there (there (there (there (there here))))))))))))) w (e ∙ sym v.nodes)

  pub renew_header : (h : Header) → patch (n * n) (numbers h) (write n b l) ≡ write n (record { edges = b.edges; header = h; words = b.words; counts = b.counts; marks = b.marks; component = b.component; nodes = b.nodes }) l
  unfolding write swap
  renew_header h = renew (there here) (numbers h) refl
