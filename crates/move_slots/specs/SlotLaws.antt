-- How the code's lists give the slots of the ledger, and what the first slots of a longer list say. Assumes nothing.
use Rattle.std.specs.Prelude.{◌≡◌, List, ◌++◌, ◌&&◌, ℕ, ◌+◌, ◌-◌, ◌^◌, ◌≤◌, ◌<◌, eqb, ltb, length, get_or, take}
use Rattle.std.proofs.Math.Path.{refl, ap, fun_ext}
use Rattle.std.proofs.Common.{sym, ◌∙◌, arith, zero-add, lt-ltb, get_or-take, length-take-le}
use Rattle.std.proofs.Math.ListN.{get_or-append}
use Rattle.std.proofs.Math.Bool.{cond}
use Rattle.std.proofs.Math.Decide.{dec_lt}
use Rattle.graphs.specs.Count.{count, count_ext}
use Rattle.graphs.specs.Tab.{tab, tab-length, tab-at, is_tab}
use Rattle.graphs.specs.Slots.{mult, flat, slot_edge, Ends}
use Rattle.layout.specs.Patch.{patch, patch_in}
use Rattle.entry_set.specs.Lanes.{lanes}
use Rattle.move_ledger.specs.Graph.{Load, at, owner, members}
use Rattle.move_ledger.specs.Nodes.{highest, fronts, front, face_source, face_target, source, target, sources, targets}
use Rattle.move_ledger.specs.NodeLaws.{highest_ext, sources-length, targets-length}
use Rattle.move_slots.specs.Slots.{atoms, source_by, target_by, sources_by, targets_by}
use Rattle.move_slots.specs.Facades.{fronting, fronts_in}

-- what is written over the front of a list
pub patch-first : (v l : List ℕ) (k : ℕ) → k < length v → k < length l → get_or (patch 0 v l) k 0 ≡ get_or v k 0
patch-first v l k h z = sym (ap (λ (i : ℕ). get_or (patch 0 v l) i 0) (zero-add k)) ∙ patch_in 0 v l k h (omega arith)

-- counts that are written over the front of a list are the nodes' atom counts
pub tally_members : (load : Load) (nodes : List ℕ) (n : ℕ) (counts : List ℕ) {counts' : List ℕ} → n ≤ length counts
    → counts' ≡ patch 0 (tab (atoms nodes load.A) n) counts → (x : ℕ) → x < n → at counts' x ≡ members load nodes x
unfolding members
tally_members load nodes n counts b q x h =
    let t = tab-length (atoms nodes load.A) n in
    rw q (patch-first (tab (atoms nodes load.A) n) counts x (omega arith) (omega arith) ∙ tab-at (atoms nodes load.A) n x h)

-- what `tally` writes into the front of a list are the nodes' atom counts
pub tallied_members : (load : Load) (nodes : List ℕ) (n : ℕ) (rest : List ℕ) {own counts : List ℕ} → load.A ≤ length nodes → own ≡ take load.A nodes
    → counts ≡ tab (atoms own (length own)) n ++ rest → (x : ℕ) → x < n → at counts x ≡ members load nodes x
unfolding members
tallied_members load nodes n rest {own} {counts} room o q x h =
    let t = tab-length (atoms own (length own)) n in
    let e : length own ≡ load.A = ap length o ∙ length-take-le load.A nodes room in
    ap (λ (l : List ℕ). at l x) q ∙ get_or-append (tab (atoms own (length own)) n) rest 0 x (omega arith) ∙ tab-at (atoms own (length own)) n x h ∙ ap (count (λ i. eqb (at own i) x)) e
    ∙ count_ext (λ i. eqb (at own i) x) (λ i. eqb (at nodes i) x) load.A (λ i b. rw o (rw (get_or-take load.A nodes i 0 b) refl))

-- `facade` has the front of each entry bit
pub record Fronts (load : Load) (nodes sets facade : List ℕ) : Type 0 where
  pub front_at : (b : ℕ) → b < load.E → at facade b ≡ front load nodes sets b

-- the lanes from `from` on hold the sets of the nodes, and the counts are the nodes' atom counts
pub record InLanes (load : Load) (nodes sets area : List ℕ) (from stride r : ℕ) (counts : List ℕ) : Type 0 where
  pub many : r ≡ length sets
  pub set_at : (x : ℕ) → x < length sets → lanes area (from + x) stride ≡ at sets x
  pub count_at : (x : ℕ) → x < length sets → at counts x ≡ members load nodes x

-- a list that has at each bit's place the highest node that passes has the fronts
fronts_of : {load : Load} {nodes sets area : List ℕ} {from stride r : ℕ} {counts facade : List ℕ} → InLanes load nodes sets area from stride r counts
    → ((b : ℕ) → b < load.E → at facade b ≡ highest (fronting area from stride counts b) r) → Fronts load nodes sets facade
unfolding front
fronts_of {load} {nodes} {sets} {area} {from} {stride} {r} {counts} g first = record { front_at = λ b h. first b h ∙ found b }
  where
    found : (b : ℕ) → highest (fronting area from stride counts b) r ≡ highest (fronts load nodes sets b) (length sets)
    found b =
        ap (highest (fronting area from stride counts b)) g.many
        ∙ highest_ext (fronting area from stride counts b) (fronts load nodes sets b) (length sets) (λ x z. rw (g.set_at x z, g.count_at x z) (tested x))
      where
        tested : (x : ℕ) → (eqb (at sets x) (2 ^ b) && ltb 0 (members load nodes x)) ≡ fronts load nodes sets b x
        tested x = refl

-- so has one over whose front they are written
pub facades_fronts : {load : Load} {nodes sets area : List ℕ} {from stride r : ℕ} {counts facade : List ℕ} (out : List ℕ) → InLanes load nodes sets area from stride r counts
    → load.E ≤ length out → facade ≡ patch 0 (fronts_in area from stride r counts load.E) out → Fronts load nodes sets facade
unfolding fronts_in
facades_fronts {load} {nodes} {sets} {area} {from} {stride} {r} {counts} {facade} out g room q =
    let f : ℕ → ℕ = λ b. highest (fronting area from stride counts b) r in
    let t = tab-length f load.E in
    fronts_of g (λ b h. rw q (patch-first (tab f load.E) out b (omega arith) (omega arith) ∙ tab-at f load.E b h))

-- what `facades` writes into the front of a list are the fronts
pub written_fronts : {load : Load} {nodes sets area : List ℕ} {from stride r : ℕ} {counts facade : List ℕ} (rest : List ℕ) → InLanes load nodes sets area from stride r counts
    → facade ≡ fronts_in area from stride r counts load.E ++ rest → Fronts load nodes sets facade
unfolding fronts_in
written_fronts {load} {nodes} {sets} {area} {from} {stride} {r} {counts} {facade} rest g q =
    let f : ℕ → ℕ = λ b. highest (fronting area from stride counts b) r in
    let t = tab-length f load.E in
    fronts_of g (λ b h. rw q (get_or-append (tab f load.E) rest 0 b (omega arith) ∙ tab-at f load.E b h))

module _ {load : Load} {nodes sets : List ℕ} where
  module _ {facade : List ℕ} (f : Fronts load nodes sets facade) where
    -- the slots over the fronts are the ledger's
    pub sources-ledger : sources_by load nodes facade ≡ sources load nodes sets
    unfolding sources_by source_by sources source
    sources-ledger = is_tab _ (load.D + load.E) _ (tab-length _ (load.D + load.E)) (λ k h. tab-at _ (load.D + load.E) k h ∙ go k h (dec_lt k load.D))
      where
        go : (k : ℕ) → k < load.D + load.E → Dec (k < load.D)
            → cond (ltb k load.D) (at nodes (owner load k)) (face_source (at facade (k - load.D)) (at load.hosts (k - load.D)))
            ≡ cond (ltb k load.D) (at nodes (owner load k)) (face_source (front load nodes sets (k - load.D)) (at load.hosts (k - load.D)))
        go k h (yes z) = rw (lt-ltb k load.D z) refl
        go k h (no z) = rw (f.front_at (k - load.D) (omega arith)) refl

    pub targets-ledger : targets_by load nodes facade ≡ targets load nodes sets
    unfolding targets_by target_by targets target
    targets-ledger = is_tab _ (load.D + load.E) _ (tab-length _ (load.D + load.E)) (λ k h. tab-at _ (load.D + load.E) k h ∙ go k h (dec_lt k load.D))
      where
        go : (k : ℕ) → k < load.D + load.E → Dec (k < load.D)
            → cond (ltb k load.D) (at nodes (at load.dependencies k)) (face_target nodes (at facade (k - load.D)) (at load.hosts (k - load.D)))
            ≡ cond (ltb k load.D) (at nodes (at load.dependencies k)) (face_target nodes (front load nodes sets (k - load.D)) (at load.hosts (k - load.D)))
        go k h (yes z) = rw (lt-ltb k load.D z) refl
        go k h (no z) = rw (f.front_at (k - load.D) (omega arith)) refl

-- the first D + E slots of two lists are the ledger's
pub record Slotted (load : Load) (nodes sets s t : List ℕ) : Type 0 where
  pub source_at : (k : ℕ) → k < load.D + load.E → get_or s k 0 ≡ get_or (sources load nodes sets) k 0
  pub target_at : (k : ℕ) → k < load.D + load.E → get_or t k 0 ≡ get_or (targets load nodes sets) k 0

-- so it is with what `write_slots` writes
pub slots_written : {load : Load} {nodes sets facade : List ℕ} (s₀ t₀ : List ℕ) {s t : List ℕ} → Fronts load nodes sets facade → load.D + load.E ≤ length s₀ → load.D + load.E ≤ length t₀
    → s ≡ patch 0 (sources_by load nodes facade) s₀ → t ≡ patch 0 (targets_by load nodes facade) t₀ → Slotted load nodes sets s t
slots_written {load} {nodes} {sets} {facade} s₀ t₀ {s} {t} f a b p q = record {
  source_at = λ k h. rw (p, sources-ledger f) (patch-first (sources load nodes sets) s₀ k (omega (arith, sources-length load nodes sets)) (omega arith));
  target_at = λ k h. rw (q, targets-ledger f) (patch-first (targets load nodes sets) t₀ k (omega (arith, targets-length load nodes sets)) (omega arith));
}

module _ {load : Load} {nodes sets s t : List ℕ} (v : Slotted load nodes sets s t) where
  pub slotted_mult : (x y : ℕ) → mult s t (load.D + load.E) x y ≡ mult (sources load nodes sets) (targets load nodes sets) (load.D + load.E) x y
  unfolding mult
  slotted_mult x y = count_ext _ _ (load.D + load.E) (λ k h. rw (v.source_at k h, v.target_at k h) refl)

  pub slotted_flat : (n i : ℕ) → flat s t n (load.D + load.E) i ≡ flat (sources load nodes sets) (targets load nodes sets) n (load.D + load.E) i
  slotted_flat n i = count_ext _ _ (load.D + load.E) (λ k h. rw (v.source_at k h, v.target_at k h) refl)

  pub slotted_edge : slot_edge s t (load.D + load.E) ≡ slot_edge (sources load nodes sets) (targets load nodes sets) (load.D + load.E)
  unfolding slot_edge
  slotted_edge = fun_ext (λ x. fun_ext (λ y. ap (ltb 0) (slotted_mult x y)))

  pub slotted_ends : {n : ℕ} → Ends (sources load nodes sets) (targets load nodes sets) n (load.D + load.E) → Ends s t n (load.D + load.E)
  slotted_ends e = record { source = λ k h. rw (v.source_at k h) (e.source k h); target = λ k h. rw (v.target_at k h) (e.target k h) }
