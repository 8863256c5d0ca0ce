-- An area whose fields are written anew, where the lanes of words may be longer than before. Assumes nothing.
use Rattle.std.specs.Prelude.{◌≡◌, refl, List, [], ◌∷◌, ℕ, zero, suc, ◌+◌, ◌*◌, ◌≤◌, ◌<◌, length, get_or}
use Rattle.std.proofs.Math.Path.{sym}
use Rattle.std.proofs.Common.{◌∙◌, arith}
use Rattle.layout.specs.Patch.{part}
use Rattle.layout.specs.Fields.{Field, field, In, here, there}
use Rattle.layout.specs.Change.{Clear, lay_agree, lay_clear, lay-over}
use Rattle.move_area.specs.Bodies.{lane_at, atom_at, Bodies, numbers, fields_of, write, Sized}
use Rattle.move_area.specs.BodyLaws.{HeaderIn, write_same}

-- each field stands where the other does, and isn't longer
data Under : List Field → List Field → Type 0 where
  none : Under [] []
  next : {f g : Field} {fs gs : List Field} → f.at ≡ g.at → length f.body ≤ length g.body → Under fs gs → Under (f ∷ fs) (g ∷ gs)

under_clear : {fs gs : List Field} {k : ℕ} → Under fs gs → Clear gs k → Clear fs k
under_clear {fs} {gs} {k} u c = record { of = λ f i. go u c.of f i }
  where
    go : {fs gs : List Field} → Under fs gs → ((g : Field) → In g gs → g.at ≤ k → g.at + length g.body ≤ k) → (f : Field) → In f fs → f.at ≤ k → f.at + length f.body ≤ k
    go none c f x10 z = elim x10 [ ]
    go (next {f} {g} e h u) c _ (here) z = omega (arith, c g here (omega arith))
    go (next e h u) c f (there i) z = go u (λ g j. c g (there j)) f i z

-- the lane of word j
pub in_words : (n : ℕ) (b : Bodies) (j : ℕ) → j < 8 → In (field (lane_at n j) (b.words j)) (fields_of n b)
in_words n b zero h = there (there here)
in_words n b (suc zero) h = there (there (there here))
in_words n b (suc (suc zero)) h = there (there (there (there here)))
in_words n b (suc (suc (suc zero))) h = there (there (there (there (there here))))
in_words n b (suc (suc (suc (suc zero)))) h = there (there (there (there (there (there here)))))
in_words n b (suc (suc (suc (suc (suc zero))))) h = there (there (there (there (there (there (there here))))))
in_words n b (suc (suc (suc (suc (suc (suc zero)))))) h = there (there (there (there (there (there (there (there here)))))))
in_words n b (suc (suc (suc (suc (suc (suc (suc zero))))))) h = there (there (there (there (there (there (there (there (there here))))))))
in_words n b (suc (suc (suc (suc (suc (suc (suc (suc j)))))))) h = absurd (omega arith)

-- k is none of the places that registering node r writes
pub record Free (n r k : ℕ) : Type 0 where
  pub header : k ≡ n * n → ⊥
  pub mark : k ≡ lane_at n 9 + r → ⊥
  pub word : (j : ℕ) → j < 8 → k ≡ lane_at n j + r → ⊥

module _ (n a : ℕ) (b b' : Bodies) (v : Sized n a b) (v' : Sized n a b') (more : b.header.registered ≤ b'.header.registered) where
  under : Under (fields_of n b) (fields_of n b')
  under =
      next refl edges
      (next refl head
      (next refl (word 0 (omega arith))
      (next refl (word 1 (omega arith))
      (next refl (word 2 (omega arith))
      (next refl (word 3 (omega arith))
      (next refl (word 4 (omega arith))
      (next refl (word 5 (omega arith))
      (next refl (word 6 (omega arith))
      (next refl (word 7 (omega arith))
      (next refl counts
      (next refl marks
      (next refl component
      (next refl nodes none)))))))))))))
    where
      edges : length b.edges ≤ length b'.edges
      edges = omega (arith, v.edges, v'.edges)

      head : length (numbers b.header) ≤ length (numbers b'.header)
      head = omega arith

      word : (j : ℕ) → j < 8 → length (b.words j) ≤ length (b'.words j)
      word j h = omega (arith, v.words j h, v'.words j h)

      counts : length b.counts ≤ length b'.counts
      counts = omega (arith, v.counts, v'.counts)

      marks : length b.marks ≤ length b'.marks
      marks = omega (arith, v.marks, v'.marks)

      component : length b.component ≤ length b'.component
      component = omega (arith, v.component, v'.component)

      nodes : length b.nodes ≤ length b'.nodes
      nodes = omega (arith, v.nodes, v'.nodes)

  clear_free : (r k : ℕ) → r < b'.header.registered → r < n → Clear (fields_of n b') k → Free n r k
  clear_free r k h z c =
      record {
        header = λ e. omega (arith, c.of (field (n * n) (numbers b'.header)) (there here) (omega arith));
        mark = λ e. omega (arith, v'.marks, c.of (field (lane_at n 9) b'.marks) (there (there (there (there (there (there (there (there (there (there (there here))))))))))) (omega arith));
        word = λ j q e. omega (arith, v'.words j q, c.of (field (lane_at n j) (b'.words j)) (in_words n b' j q) (omega arith));
      }

  -- an area that has the new fields, and is as before at each place that no field has
  pub is_write : (l₀ l' : List ℕ) (r : ℕ) → r < b'.header.registered → r < n → length l' ≡ length l₀
      → part 0 (n * n) l' ≡ b'.edges → HeaderIn n l' b'.header
      → ((j : ℕ) → j < 8 → part (lane_at n j) b'.header.registered l' ≡ b'.words j) → part (lane_at n 8) n l' ≡ b'.counts → part (lane_at n 9) n l' ≡ b'.marks
      → part (lane_at n 10) n l' ≡ b'.component → part (atom_at n) a l' ≡ b'.nodes
      → ((k : ℕ) → k < length l₀ → Free n r k → get_or l' k 0 ≡ get_or (write n b l₀) k 0) → l' ≡ write n b' l₀
  unfolding write
  is_write l₀ l' r hr hn long e g w k m o p far =
      sym (write_same n a l' b' v' e g w k m o p)
      ∙ lay_agree (fields_of n b') l₀ l' long (λ i h q. far i h (clear_free r i hr hn q) ∙ lay_clear (fields_of n b) l₀ i h (under_clear under q))

  -- the new fields over the old ones
  pub write-over : (l : List ℕ) → write n b' (write n b l) ≡ write n b' l
  unfolding write
  write-over l = lay-over (fields_of n b) (fields_of n b') l (λ k c. under_clear under c)
