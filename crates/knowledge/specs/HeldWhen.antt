-- Demand 2: when a well-formed message gets 0, 5, 6, 7 or 8, each exactly when 01 says, in its order. "Held" is what kd_held
-- answers; positions are layers and indices.
-- Assumes nothing.
use Rattle.std.specs.Prelude.{◌≡◌, refl, true, false, List, ◌⊎◌, ◌↔◌, ℕ, ◌+◌, ◌*◌, ◌^◌}
use Rattle.std.proofs.Common.{ap, sym, ◌∙◌}
use Rattle.std.proofs.Math.Logic.{inl, inr}
use Rattle.std.proofs.Math.Decide.{dec_le}
use Rattle.octets.specs.Octets.{same}
use Rattle.octets.specs.OctetsLaws.{same_true, same_false}
use Rattle.numbers.specs.Numbers.{wrong_padding, no_anchor, differs, conflict}
use Rattle.numbers.specs.Chain.{decided, exactly_of}
use Rattle.tree.specs.Geometry.{Padding, node_number}
use Rattle.tree.specs.Values.{pad_value}
use Rattle.cells.specs.Cells.{held_at, hash_at}
use Rattle.cells.specs.Entries.{Entry}
use Rattle.cells.specs.EntriesLaws.{In}
use Rattle.store.specs.Store.{blocks_of, height_of, Facts}
use Rattle.store.specs.StoreLaws.{usable_facts, tree_says}
use Rattle.settling.specs.Path.{sibling, uncle, ancestor}
use Rattle.header.specs.Header.{header_of, is_hashes}
use Rattle.messages.specs.Take.{given, uncles_of, settled, anchor, worked, padded, anchored, place_in, take_number}
use Rattle.messages.specs.Asks.{RulesPassed}
use Rattle.messages.specs.TakeLaws.{passed}
use Rattle.words.specs.Messages.{anchor_layer, anchor_index, Settles, ChainsTo, PaddingRight, PaddingWrong, AnchorIs, AnchorLacks, Acceptable, Unanchored, Elsewhere, Conflicting}
use Rattle.knowledge.specs.NumberChains.{body_chain}
use Rattle.knowledge.specs.TakenWhen.{Formed, well_formed_number, right_then_taken, taken_then_right, wrong_padding_then_5, no_anchor_then_6, other_anchor_then_7, held_differs_then_8}
use Rattle.knowledge.specs.Chains.{worked_chains, chain_is_worked}
use Rattle.knowledge.specs.Again.{what_is_held}
use Rattle.knowledge.specs.ReadBack.{holds_at}
use Rattle.knowledge.specs.RightPadding.{Pads, at_place, settled_pads}
use Rattle.knowledge.specs.Replies.{padded_when}
use Rattle.knowledge.specs.AnchorHeld.{anchor_number, anchor_in_tree}
use Rattle.knowledge.specs.Differing.{each_or, none_differs, one_differs, differs_one, differs_none}
use Rattle.numbers.specs.Tests.{either, not_both}
use Rattle.knowledge.specs.ChainsTo.{chains_exactly}
use Rattle.knowledge.specs.Positions.{SettlesNumber, settles_entered, entry_settled, run_entry, uncle_entry}

-- ---- from the tests to these

module _ (s m : List ℕ) (W : Formed s m) where
  P : RulesPassed (is_hashes m) s m
  P = passed (is_hashes m) s m W.header

  facts : Facts s
  facts = usable_facts s P.store

  padding_right : padded m (header_of m) (place_in s m) (blocks_of s) ≡ true → PaddingRight s m
  padding_right t l i v x pd =
      let E = settles_entered s m W l i v x in
      settled_pads s m P W.size t (record { at = node_number (height_of s) l i; hash = v }) E.has l i E.low E.inside refl pd

  pads_each : ((e : Entry) → In e (settled m (place_in s m)) → Pads (height_of s) (blocks_of s) e.at e.hash) → padded m (header_of m) (place_in s m) (blocks_of s) ≡ true
  pads_each f =
      let p = place_in s m in
      padded_when s m W.header W.size
      (λ j l. f (record { at = (place_in s m).top * 2 ^ (place_in s m).k + j; hash = given m (place_in s m).k j }) (run_entry s m W j l))
      (λ i l. f (record { at = sibling (ancestor i (place_in s m).top); hash = uncle (uncles_of m (2 ^ (place_in s m).k) (place_in s m).u) i }) (uncle_entry s m W i l))

  settled_place : (h b n : ℕ) (v : List ℕ) (S : SettlesNumber h m n v) → (Padding b S.l S.i → v ≡ pad_value S.l) → Pads h b n v
  settled_place h b n v S f = rw S.number (at_place h b S.l S.i v S.low S.inside f)

  right_padding : PaddingRight s m → padded m (header_of m) (place_in s m) (blocks_of s) ≡ true
  right_padding r =
      pads_each
      (λ e x.
      let S = entry_settled s m W e x in
      settled_place (height_of s) (blocks_of s) e.at e.hash S (λ pd. r S.l S.i e.hash S.settles pd))

  wrong_or_right : (e : Entry) → In e (settled m (place_in s m)) → Pads (height_of s) (blocks_of s) e.at e.hash ⊎ PaddingWrong s m
  unfolding Padding
  wrong_or_right e x =
      let S = entry_settled s m W e x in
      elim (dec_le (blocks_of s) (S.i * 2 ^ S.l)) [
        | no n ↦ inl (settled_place (height_of s) (blocks_of s) e.at e.hash S (λ pd. absurd (n pd)))
        | yes y ↦ elim (either (same e.hash (pad_value S.l))) [
          | inl t ↦ inl (settled_place (height_of s) (blocks_of s) e.at e.hash S (λ pd. same_true e.hash (pad_value S.l) t))
          | inr f ↦ inr (record { l = S.l; i = S.i; v = e.hash; settles = S.settles; padding = y; other = same_false e.hash (pad_value S.l) f })
        ]
      ]

  padding_wrong : padded m (header_of m) (place_in s m) (blocks_of s) ≡ false → PaddingWrong s m
  padding_wrong f =
      elim (each_or (settled m (place_in s m)) (λ e. Pads (height_of s) (blocks_of s) e.at e.hash) (PaddingWrong s m) wrong_or_right) [
        | inl k ↦ absurd (not_both (pads_each k) f)
        | inr w ↦ w
      ]

  wrong_padding_lem : PaddingWrong s m → padded m (header_of m) (place_in s m) (blocks_of s) ≡ false
  wrong_padding_lem w =
      elim (either (padded m (header_of m) (place_in s m) (blocks_of s))) [
        | inl t ↦ absurd (w.other (padding_right t w.l w.i w.v w.settles w.padding))
        | inr f ↦ f
      ]

  -- the anchor

  anchor_holds : held_at s (anchor (place_in s m)) ≡ true → AnchorIs s m (hash_at s (anchor (place_in s m)))
  anchor_holds h =
      let n = anchor_number (is_hashes m) s m P in
      let t = tree_says (height_of s) (anchor_layer m) (anchor_index m) (anchor_in_tree (is_hashes m) s m P) in
      rw n (holds_at s (anchor_layer m) (anchor_index m) facts t.0 t.1 (rw n at h))

  holds_anchor : (w : List ℕ) → AnchorIs s m w → (held_at s (anchor (place_in s m)) ≡ true) × (hash_at s (anchor (place_in s m)) ≡ w)
  holds_anchor w h =
      let n = anchor_number (is_hashes m) s m P in
      let k = what_is_held s (anchor_layer m) (anchor_index m) w facts h in
      (ap (held_at s) n ∙ k.1, ap (hash_at s) n ∙ k.2)

  lacks_anchor : AnchorLacks s m → held_at s (anchor (place_in s m)) ≡ false
  lacks_anchor f =
      elim (either (held_at s (anchor (place_in s m)))) [ inl t ↦ absurd (f (hash_at s (anchor (place_in s m))) (anchor_holds t)) | inr x ↦ x ]

  anchor_lacks : held_at s (anchor (place_in s m)) ≡ false → AnchorLacks s m
  anchor_lacks f w h = not_both (holds_anchor w h).0 f

  -- the chain

  worked_to : (w : List ℕ) → w ≡ worked m (place_in s m) → ChainsTo m w
  worked_to w e = (chains_exactly s m W w).1 (rw e (worked_chains m (place_in s m)))

  to_worked : (w : List ℕ) → ChainsTo m w → w ≡ worked m (place_in s m)
  to_worked w c = chain_is_worked m (place_in s m) w ((chains_exactly s m W w).0 c)

-- ---- the numbers

-- of the tests of a well-formed message
tests : (s m : List ℕ) → Formed s m → take_number s m ≡ decided (body_chain s m)
unfolding anchored
tests s m W = well_formed_number s m W

module _ (s m : List ℕ) (W : Formed s m) where
  -- TAKEN EXACTLY WHEN its padding is right, its hashes chain to its anchor, its anchor is held, and no held hash differs
  pub taken_exactly_when : (take_number s m ≡ 0) ↔ Acceptable s m
  taken_exactly_when = (
    λ z.
        (let r = taken_then_right s m W z in
        record {
          padding = padding_right s m W r.padding;
          w = hash_at s (anchor (place_in s m));
          held = anchor_holds s m W r.held;
          chains = worked_to s m W (hash_at s (anchor (place_in s m))) r.chains;
          agree = none_differs s (facts s m W) (Settles m) (settled m (place_in s m)) (settles_entered s m W) (entry_settled s m W) r.agree;
        }),
    λ b.
        (let k = holds_anchor s m W b.w b.held in
        right_then_taken s m W
        (record {
          padding = right_padding s m W b.padding;
          held = k.0;
          chains = k.1 ∙ to_worked s m W b.w b.chains;
          agree = differs_none s (facts s m W) (Settles m) (settled m (place_in s m)) (settles_entered s m W) (entry_settled s m W) b.agree;
        })),
  )

  -- 5 EXACTLY WHEN a padding position has another value
  pub five_exactly_when : (take_number s m ≡ wrong_padding) ↔ PaddingWrong s m
  five_exactly_when = (
    λ z. padding_wrong s m W ((exactly_of (body_chain s m) wrong_padding (tests s m W) refl).0 z),
    λ w. wrong_padding_then_5 s m W (wrong_padding_lem s m W w),
  )

  -- 6 EXACTLY WHEN its padding is right and its anchor is not held
  pub six_exactly_when : (take_number s m ≡ no_anchor) ↔ Unanchored s m
  six_exactly_when = (
    λ z.
        (let t = (exactly_of (body_chain s m) no_anchor (tests s m W) refl).0 z in
        record { padding = padding_right s m W t.0; lacks = anchor_lacks s m W t.1 }),
    λ u. no_anchor_then_6 s m W (right_padding s m W u.padding) (lacks_anchor s m W u.lacks),
  )

  -- 7 EXACTLY WHEN its padding is right, its anchor is held, and its hashes don't chain to it
  pub seven_exactly_when : (take_number s m ≡ differs) ↔ Elsewhere s m
  seven_exactly_when = (
    λ z.
        (let t = (exactly_of (body_chain s m) differs (tests s m W) refl).0 z in
        record {
          padding = padding_right s m W t.0;
          w = hash_at s (anchor (place_in s m));
          held = anchor_holds s m W t.1.0;
          other =
              λ c.
              same_false (hash_at s (anchor (place_in s m))) (worked m (place_in s m)) t.1.1 (to_worked s m W (hash_at s (anchor (place_in s m))) c);
        }),
    λ d.
        (let k = holds_anchor s m W d.w d.held in
        other_anchor_then_7 s m W (right_padding s m W d.padding) k.0
        (λ e.
        let q : d.w ≡ worked m (place_in s m) = sym k.1 ∙ e in
        d.other (worked_to s m W d.w q))),
  )

  -- 8 EXACTLY WHEN its padding is right, its hashes chain to its anchor, its anchor is held, and a held hash differs
  pub eight_exactly_when : (take_number s m ≡ conflict) ↔ Conflicting s m
  eight_exactly_when = (
    λ z.
        (let t = (exactly_of (body_chain s m) conflict (tests s m W) refl).0 z in
        let c : hash_at s (anchor (place_in s m)) ≡ worked m (place_in s m) = same_true (hash_at s (anchor (place_in s m))) (worked m (place_in s m)) t.1.1.0 in
        record {
          padding = padding_right s m W t.0;
          w = hash_at s (anchor (place_in s m));
          held = anchor_holds s m W t.1.0;
          chains = worked_to s m W (hash_at s (anchor (place_in s m))) c;
          one = one_differs s (facts s m W) (Settles m) (settled m (place_in s m)) (settles_entered s m W) (entry_settled s m W) t.1.1.1;
        }),
    λ d.
        (let k = holds_anchor s m W d.w d.held in
        held_differs_then_8 s m W (right_padding s m W d.padding) k.0 (k.1 ∙ to_worked s m W d.w d.chains) (differs_one s (facts s m W) (Settles m) (settled m (place_in s m)) (settles_entered s m W) (entry_settled s m W) d.one)),
  )
