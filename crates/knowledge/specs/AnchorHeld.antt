-- "Its anchor is held" as kd_held answers it: by the layer and the index that 01 gives the anchor.
-- Assumes nothing.
use Rattle.std.specs.Prelude.{◌≡◌, refl, Bool, true, false, List, ℕ, ◌+◌, ◌-◌, ◌*◌, ◌/◌, ◌^◌, ◌≤◌, ◌<◌}
use Rattle.std.proofs.Math.Path.{ap, sym}
use Rattle.std.proofs.Common.{◌∙◌, arith, div-lt_iff_lt-mul, pow-add, pow_pos, le-leb, lt-ltb}
use Rattle.sha256.specs.declared.Hashed.{Hashed}
use Rattle.tree.specs.Geometry.{height, node_number}
use Rattle.cells.specs.Cells.{held_at}
use Rattle.store.specs.Store.{height_of, in_tree, held_answer}
use Rattle.store.specs.StoreLaws.{held_given, held_not}
use Rattle.settling.specs.AncestorLaws.{ancestor_number}
use Rattle.header.specs.Header.{header_of, place_of}
use Rattle.header.specs.HeaderLaws.{rules_kept_lem, log_some, top_inside}
use Rattle.messages.specs.Take.{anchor, place_in}
use Rattle.messages.specs.Asks.{RulesPassed}
use Rattle.words.specs.Messages.{uncles_in, anchor_layer, anchor_index}

module _ (form : Bool) (s m : List ℕ) (P : RulesPassed form s m) where
  -- the anchor's number is that of this layer and index
  pub anchor_number : anchor (place_in s m) ≡ node_number (height_of s) (anchor_layer m) (anchor_index m)
  unfolding anchor place_of
  anchor_number =
      let X = header_of m in
      let K = rules_kept_lem X (height_of s) P.rules in
      let one = log_some X.len K.two in
      ancestor_number (height_of s) (X.base + height X.len) (X.index / X.len) (X.proof - (height X.len - 1)) (omega (arith, K.within, K.above))

  -- it is a position of the tree
  pub anchor_in_tree : in_tree (height_of s) (anchor_layer m) (anchor_index m) ≡ true
  unfolding in_tree
  anchor_in_tree =
      let X = header_of m in
      let h = height_of s in
      let K = rules_kept_lem X (height_of s) P.rules in
      let one = log_some X.len K.two in
      let ins = top_inside X h K in
      let up : anchor_layer m ≤ height_of s = omega (arith, K.within, K.above) in
      let ex : height_of s - anchor_layer m + uncles_in m ≡ height_of s - (X.base + height X.len) = omega (arith, K.within, K.above) in
      let pw : 2 ^ (height_of s - anchor_layer m) * 2 ^ uncles_in m ≡ 2 ^ (height_of s - (X.base + height X.len)) =
      sym (pow-add 2 (height_of s - anchor_layer m) (uncles_in m)) ∙ ap (λ (z : ℕ). 2 ^ z) ex in
      let ib : anchor_index m < 2 ^ (height_of s - anchor_layer m) = (div-lt_iff_lt-mul (pow_pos (uncles_in m))).1 (omega arith) in
      rw (le-leb (anchor_layer m) (height_of s) up, lt-ltb (anchor_index m) (2 ^ (height_of s - anchor_layer m)) ib)

  -- where kd_held answers 0 for it, it is held
  pub asked_held : (held_answer s (anchor_layer m) (anchor_index m)).number ≡ 0 → held_at s (anchor (place_in s m)) ≡ true
  asked_held z = by (held_at s (node_number (height_of s) (anchor_layer m) (anchor_index m))) refl
    where
      by : (b : Bool) → held_at s (node_number (height_of s) (anchor_layer m) (anchor_index m)) ≡ b → held_at s (anchor (place_in s m)) ≡ true
      by true e = ap (held_at s) anchor_number ∙ e
      by false e =
          let g = ap (λ (r : Hashed). r.number) (held_not s (anchor_layer m) (anchor_index m) P.store anchor_in_tree e) in
          let w : ⊥ = omega arith in
          absurd w

  -- and where it is held, kd_held answers 0
  pub held_asked : held_at s (anchor (place_in s m)) ≡ true → (held_answer s (anchor_layer m) (anchor_index m)).number ≡ 0
  held_asked h =
      sym (ap (λ (r : Hashed). r.number) (held_given s (anchor_layer m) (anchor_index m) P.store anchor_in_tree (sym (ap (held_at s) anchor_number) ∙ h)))
