-- A lent part of an area into which f 0, f 1, .. are written. Assumes nothing.
use Rattle.std.proofs.Common.{◌≡◌, ℕ, ◌+◌, ◌-◌, ◌≤◌, ◌<◌, List, length, get_or, ap, ◌∙◌, arith}
use borrow.Rule.Slice.PartMut.{put_mid}
use Rattle.graphs.specs.Tab.{tab, is_tab}
use Rattle.layout.specs.Patch.{patch}
use Rattle.layout.specs.Lent.{put-patch}

pub tabbed : (f : ℕ → ℕ) (area : List ℕ) (at k : ℕ) (lane : List ℕ) → at + k ≤ length area → length lane ≡ k → ((i : ℕ) → i < k → get_or lane i 0 ≡ f i)
    → put_mid at (at + k - at) area lane ≡ patch at (tab f k) area
tabbed f area at k lane room long is = put-patch at (at + k) area lane (omega arith) room (omega arith) ∙ ap (λ (v : List ℕ). patch at v area) (is_tab lane k f long is)
