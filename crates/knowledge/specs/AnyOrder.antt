-- 02, request 14: two stores that heard the same messages, each until a whole round made nothing newly held, hold the same, or show a pair.
-- By induction over one store's history all that it learnt is held by the other: a message that it took has its anchor held there with the
-- same bytes; so the other store takes it too, and has, or holds another hash than the message settles, and then the two show a pair.
-- Assumes nothing.
use Rattle.std.specs.Prelude.{◌≡◌, refl, true, List, ◌↔◌, ◌⊎◌, ℕ, ◌≤◌, ◌<◌, length}
use Rattle.std.proofs.Math.Path.{ap, sym}
use Rattle.std.proofs.Common.{ap₂, ◌∙◌, subst}
use Rattle.std.proofs.Math.Logic.{inl, inr}
use Rattle.std.proofs.Math.Decide.{ℕ_discrete}
use Rattle.numbers.specs.Numbers.{no_anchor}
use Rattle.tree.specs.Geometry.{block_count, height, node_number}
use Rattle.cells.specs.Cells.{held_at, hash_at}
use Rattle.store.specs.Store.{file_length, facts_root, blocks_of, height_of, positions, open_answer, open_after, Facts}
use Rattle.store.specs.StoreLaws.{facts_usable, open_done, opened_file, opened_facts_root, used_held, tree_number_lem}
use Rattle.header.specs.declared.Place.{Place}
use Rattle.header.specs.Header.{header_of, is_hashes, place_of}
use Rattle.messages.specs.Take.{anchor, worked, padded, place_in, take_number, take_after}
use Rattle.messages.specs.Asks.{RulesPassed}
use Rattle.messages.specs.TakeLaws.{passed}
use Rattle.messages.specs.TakenLaws.{take_refused}
use Rattle.marks.specs.Marks.{marks_put}
use Rattle.words.specs.Held.{Holds}
use Rattle.words.specs.History.{Bytes, Steps, begin, next, Each, nothing, called, between, Begins, by_opening, OurStore, ours}
use Rattle.words.specs.Messages.{anchor_layer, anchor_index, Settles, WellFormed, Acceptable}
use Rattle.words.specs.Shown.{held_by, by_message, Gives, Shown}
use Rattle.words.specs.Hearing.{MessageSet, Heard, Offered, last, before, Round, NothingNew, Gateway, GatewayFrom}
use Rattle.knowledge.specs.Through.{PreservedBy, each_through}
use Rattle.knowledge.specs.TakenWhen.{Formed, taken_well_formed, taken_then_right, right_then_taken}
use Rattle.knowledge.specs.Chains.{chain_is_worked}
use Rattle.knowledge.specs.MarksApart.{marks_held}
use Rattle.knowledge.specs.Grows.{Grown, grown_same, grown_on, grown_take, grown_marks, grown_moved, steps_grow}
use Rattle.knowledge.specs.Again.{what_is_held, grown_holds, knowledge_only_grows, number_stays}
use Rattle.knowledge.specs.OwnBytes.{begins_ours, ours_have, ours_bytes}
use Rattle.knowledge.specs.OursMeet.{ours_meet}
use Rattle.knowledge.specs.Conflict.{message_or_shown}
use Rattle.knowledge.specs.Shown.{shown, shown_too, shown_turned, reads_message}
use Rattle.knowledge.specs.ConflictShows.{ours_reads}
use Rattle.knowledge.specs.AnchorHeld.{anchor_number, asked_held}
use Rattle.knowledge.specs.ChainsTo.{chains_exactly}
use Rattle.knowledge.specs.FormedWhen.{well_formed}
use Rattle.knowledge.specs.HeldWhen.{taken_exactly_when}
use Rattle.knowledge.specs.RootAlone.{range_exactly, opening_0, root_alone}
use Rattle.knowledge.specs.NoAnchor.{never_6_again}
use Rattle.knowledge.specs.HeldAfter.{was, settles_then_holds, held_after}

-- ---- histories

-- one history after another
pub steps_then : {s t u : List ℕ} → Steps s t → Steps t u → Steps s u
steps_then h begin = h
steps_then h (next k x) = next (steps_then h k) x

pub each_then : {M : MessageSet} {s t u : List ℕ} {h : Steps s t} {k : Steps t u} → Each (Heard M) t h → Each (Heard M) u k → Each (Heard M) u (steps_then h k)
unfolding steps_then
each_then a nothing = a
each_then a (called c x b y) = called c x (each_then a b) y
each_then a (between v b e w) = between v b e (each_then a w)

-- when a message was offered: the bytes that it was offered to, and the histories before and after
record OfferedAt (m s t : List ℕ) : Type 0 where
  there : List ℕ
  first : Steps s there
  rest : Steps (take_after there m) t

offered_at : {m s t : List ℕ} {h : Steps s t} → Offered m t h → OfferedAt m s t
offered_at (last {t} h b x) = record { there = t; first = h; rest = begin }
offered_at (before k o) = let w = offered_at o in record { there = w.there; first = w.first; rest = next w.rest k }

-- ---- all that one store holds another holds

-- all that s holds t holds, with the same bytes
abbrev pub Within : List ℕ → List ℕ → Type 0
Within s t = (l i : ℕ) (v : List ℕ) → Holds s l i v → Holds t l i v

-- where a store that has grown has no more numbers held, all that it holds was held
pub back : (s t : List ℕ) → Facts s → Grown s t → ((q : ℕ) → 1 ≤ q → q < positions (height_of s) → held_at t q ≡ true → held_at s q ≡ true) → Within t s
back s t f g k l i v h =
    let w = what_is_held t l i v g.facts h in
    let e = g.same.layers in
    let b = tree_number_lem (height_of t) l i w.0 in
    was s t f g l i v h (k (node_number (height_of s) l i) (rw e at b.0) (rw e at b.1) (rw e at w.1))

-- a refused message changes no byte
pub take_stays : (s m : List ℕ) → (take_number s m ≡ 0 → ⊥) → take_after s m ≡ s
take_stays s m ne = sym (take_refused s m (take_number s m) refl ne).1

-- ---- a store that has no more to learn from the messages

-- all that a message which it takes settles, it holds
unfoldable pub Still : MessageSet → List ℕ → Type 0
Still M t = (m : List ℕ) → M m → take_number t m ≡ 0 → (l i : ℕ) (v : List ℕ) → Settles m l i v → Holds t l i v

-- after a whole round that made nothing newly held a store is still: what it takes now, it took in that round. (Had it been 6 then, the anchor
-- would be newly held.)
pub still_then : {M : MessageSet} {s t : List ℕ} → Round M s t → NothingNew s t → Still M t
unfolding Still
still_then {M} {s} {t} r q m y z l i v x =
    let o = offered_at (r.each m y) in
    knowledge_only_grows o.rest l i v (settles_then_holds o.there m (took o) l i v x)
  where
    took : (o : OfferedAt m s t) → take_number o.there m ≡ 0
    took o =
        elim (ℕ_discrete (take_number o.there m) no_anchor) [
          | no ne ↦ sym (number_stays o.there m o.rest ne) ∙ z
          | yes six ↦
              let A = (taken_exactly_when t m (taken_well_formed t m z)).0 z in
              absurd (never_6_again m A.w o.first (q (anchor_layer m) (anchor_index m) A.w A.held) six)
        ]

-- ---- what another store learns, it holds

module _ (M : MessageSet) {t : List ℕ} (o : OurStore t) (still : Still M t) where
  facts : Facts t
  facts = (ours_have o).chained.facts

  -- a message taken by a store within t
  module _ (a m : List ℕ) (files : file_length t ≡ file_length a) (roots : facts_root t ≡ facts_root a) (bm : Bytes m) (y : M m) (w : Within a t) (z : take_number a m ≡ 0) where
    blocks : blocks_of t ≡ blocks_of a
    unfolding blocks_of
    blocks = ap block_count files

    layers : height_of t ≡ height_of a
    unfolding height_of
    layers = ap height blocks

    there : Formed a m
    there = taken_well_formed a m z

    well : WellFormed t m
    well =
        let W = (well_formed a m).1 there in
        record {
          ruled = record { store = facts_usable t facts; form = W.ruled.form; root = roots ∙ W.ruled.root; rules = rw layers W.ruled.rules };
          size = W.size;
        }

    formed : Formed t m
    formed = (well_formed t m).0 well

    P : RulesPassed (is_hashes m) t m
    P = passed (is_hashes m) t m formed.header

    A : Acceptable a m
    A = (taken_exactly_when a m there).0 z

    anchor_here : Holds t (anchor_layer m) (anchor_index m) A.w
    anchor_here = w (anchor_layer m) (anchor_index m) A.w A.held

    padding : padded m (header_of m) (place_in t m) (blocks_of t) ≡ true
    padding = ap₂ (λ (p : Place) (b : ℕ). padded m (header_of m) p b) (ap (place_of (header_of m)) layers) blocks ∙ (taken_then_right a m there z).padding

    anchor_held : held_at t (anchor (place_in t m)) ≡ true
    anchor_held = asked_held (is_hashes m) t m P anchor_here.given

    chains : hash_at t (anchor (place_in t m)) ≡ worked m (place_in t m)
    chains =
        ap (hash_at t) (anchor_number (is_hashes m) t m P) ∙ (what_is_held t (anchor_layer m) (anchor_index m) A.w facts anchor_here).2
        ∙ chain_is_worked m (place_in t m) A.w ((chains_exactly t m formed A.w).0 A.chains)

    -- t takes it too, and holds what it settles; or t and the store that took it show a pair
    settled_within : Shown (height_of t) (held_by t) (held_by (take_after a m)) ⊎ ((l i : ℕ) (v : List ℕ) → Settles m l i v → Holds t l i v)
    unfolding Still Gives
    settled_within =
        elim (message_or_shown t m (ours_have o).chained (ours_bytes o) bm formed.header formed.size anchor_held chains) [
          | inl x ↦ inl (shown_too (settles_then_holds a m z) (shown (height_of t) (held_by t) (by_message t m) (ours_reads o) (reads_message t m formed) x))
          | inr g ↦ inr (still m y (right_then_taken t m formed (record { padding = padding; held = anchor_held; chains = chains; agree = g })))
        ]

    taken_within : Shown (height_of t) (held_by t) (held_by (take_after a m)) ⊎ Within (take_after a m) t
    taken_within =
        elim settled_within [
          | inl x ↦ inl x
          | inr f ↦ inr (λ l i v h. elim ((held_after a m z l i v).0 h) [ inl k ↦ w l i v k | inr k ↦ f l i v k ])
        ]

  -- a history that begins within t
  module _ (s : List ℕ) (fs : Facts s) (files : file_length t ≡ file_length s) (roots : facts_root t ≡ facts_root s) where
    -- a has grown from s; it and t show a pair, or it is within t
    Learnt : List ℕ → Type 0
    Learnt a = Grown s a × (Shown (height_of t) (held_by t) (held_by a) ⊎ Within a t)

    -- with more held a pair stays shown
    shown_on : (a u : List ℕ) → Facts a → Grown a u → Shown (height_of t) (held_by t) (held_by a) → Shown (height_of t) (held_by t) (held_by u)
    unfolding Gives
    shown_on a u f g x = shown_too (grown_holds a u f g) x

    took : (a m : List ℕ) → Grown s a → Bytes m → M m → Within a t → Shown (height_of t) (held_by t) (held_by (take_after a m)) ⊎ Within (take_after a m) t
    took a m g bm y w =
        elim (ℕ_discrete (take_number a m) 0) [
          | no ne ↦ inr (subst (λ (x : List ℕ). Within x t) (sym (take_stays a m ne)) w)
          | yes z ↦ taken_within a m (files ∙ sym g.same.file) (roots ∙ sym g.same.root) bm y w z
        ]

    -- nothing learnt: from a to u no number is newly held
    same_learnt : (a u : List ℕ) → Learnt a → Grown a u → ((q : ℕ) → q < positions (height_of a) → held_at u q ≡ held_at a q) → Learnt u
    unfolding Learnt
    same_learnt a u p g e = (
      grown_on p.0 g,
      elim p.1 [
        | inl x ↦ inl (shown_on a u p.0.facts g x)
        | inr w ↦ inr (λ l i v h. w l i v (back a u p.0.facts g (λ q lo hi k. sym (e q hi) ∙ k) l i v h))
      ],
    )

    keeps : PreservedBy (Heard M) Learnt
    unfolding Learnt
    keeps =
        record {
          taken =
              λ a m bm y p. (
                grown_on p.0 (grown_take a m p.0.facts),
                elim p.1 [ inl x ↦ inl (shown_on a (take_after a m) p.0.facts (grown_take a m p.0.facts) x) | inr w ↦ took a m p.0 bm y w ],
              );
          loaded = λ a l b y p. absurd y;
          remarked = λ a i n x f l c p. unfold Learnt in same_learnt a (marks_put a i n x) p (grown_marks a i n x f l) (marks_held a f i n x l);
          moved = λ a u b e p. unfold Learnt in same_learnt a u p (grown_moved a u p.0.facts e) (used_held a u p.0.facts e.bytes);
        }

    -- ALL THAT IT LEARNS from these messages t holds, or the two show a pair
    pub learnt_within : {a : List ℕ} {h : Steps s a} → Within s t → Each (Heard M) a h → Shown (height_of t) (held_by t) (held_by a) ⊎ Within a t
    unfolding Learnt
    learnt_within w x = (each_through (Heard M) Learnt keeps x (grown_same s fs, inr w)).1

-- ---- two gateways

-- from stores of ours with one length and root, of which the other holds all that the one holds
one_way_from : {M : MessageSet} {s t u v : List ℕ} → Begins s → Begins t → file_length t ≡ file_length s → facts_root t ≡ facts_root s → Within s t
    → GatewayFrom M s u → GatewayFrom M t v → Shown (height_of v) (held_by v) (held_by u) ⊎ Within u v
one_way_from {M} {s} {t} {u} {v} a b files roots w g k =
    let whole : Steps t v = steps_then k.history k.round.history in
    let same = (steps_grow (begins_ours b).chained.facts whole).same in
    learnt_within M (ours b whole) (still_then k.round k.quiet) s (begins_ours a).chained.facts (same.file ∙ files) (same.root ∙ roots)
    (λ l i x h. knowledge_only_grows whole l i x (w l i x h))
    (each_then g.only g.round.only)

-- SAME MESSAGES, ANY ORDER: two gateways that began with stores of ours of one length and root, which held the same (piece lengths may differ), and
-- heard the same messages hold the same positions with the same bytes, or the two stores show two different 64-byte strings with one SHA-256
pub same_held_from : {M : MessageSet} {s t u v : List ℕ} → Begins s → Begins t → file_length t ≡ file_length s → facts_root t ≡ facts_root s
    → ((l i : ℕ) (x : List ℕ) → Holds s l i x ↔ Holds t l i x) → GatewayFrom M s u → GatewayFrom M t v
    → Shown (height_of u) (held_by u) (held_by v) ⊎ ((l i : ℕ) (x : List ℕ) → Holds u l i x ↔ Holds v l i x)
same_held_from {M} {s} {t} {u} {v} a b files roots same g k =
    elim (one_way_from a b files roots (λ l i x. (same l i x).0) g k) [
      | inl x ↦ inl (subst (λ (h : ℕ). Shown h (held_by u) (held_by v)) high (shown_turned x))
      | inr p ↦ elim (one_way_from b a (sym files) (sym roots) (λ l i x. (same l i x).1) k g) [ inl x ↦ inl x | inr q ↦ inr (λ l i x. (p l i x, q l i x)) ]
    ]
  where
    left : file_length u ≡ file_length s
    left = (steps_grow (begins_ours a).chained.facts (steps_then g.history g.round.history)).same.file

    right : file_length v ≡ file_length t
    right = (steps_grow (begins_ours b).chained.facts (steps_then k.history k.round.history)).same.file

    high : height_of v ≡ height_of u
    high = unfold height_of blocks_of in ap (λ (y : ℕ). height (block_count y)) (right ∙ files ∙ sym left)

-- ---- from openings

-- an opened store names what it was opened with
pub opened_names : (b : List ℕ) (n plen : ℕ) (root : List ℕ) → length root ≡ 32 → (open_answer b n plen).number ≡ 0
    → (file_length (open_after b n plen root) ≡ n) × (facts_root (open_after b n plen root) ≡ root)
opened_names b n plen root size z =
    let r = (opening_0 b n plen).0 z in
    let ok = (range_exactly n plen).1 r.0 in
    let e = (open_done b n plen root ok r.1).1 in
    (ap file_length (sym e) ∙ opened_file b n plen root ok r.1 size, ap facts_root (sym e) ∙ opened_facts_root b n plen root ok r.1 size)

-- it is within every store of ours of that length and root
pub opened_within : (b : List ℕ) (n plen : ℕ) (root t : List ℕ) → length root ≡ 32 → (open_answer b n plen).number ≡ 0 → OurStore t → file_length t ≡ n → facts_root t ≡ root
    → Within (open_after b n plen root) t
unfolding height_of blocks_of
opened_within b n plen root t size z o file top l i v h =
    let r = (root_alone b n plen root size z l i v).0 h in
    let e : height (block_count (file_length t)) ≡ height (block_count n) = ap (λ (k : ℕ). height (block_count k)) file in
    let k : Holds t (height (block_count n)) 0 root = subst (λ (y : ℕ). Holds t y 0 root) e (subst (Holds t (height (block_count (file_length t))) 0) top (unfold height_of blocks_of in (ours_meet o).root)) in
    rw (r.0, r.1, r.2) k

module _ {M : MessageSet} {n plen : ℕ} {root s : List ℕ} (g : Gateway M n plen root s) where
  whole : Steps (open_after g.buffer n plen root) s
  whole = steps_then g.history g.round.history

  begins : Begins (open_after g.buffer n plen root)
  begins = by_opening g.buffer n plen root g.bytes g.octets g.opens

  gateway_from : GatewayFrom M (open_after g.buffer n plen root) s
  gateway_from = record { began = g.began; history = g.history; only = g.only; round = g.round; quiet = g.quiet }

-- two gateways that began with openings of one length and root
pub same_held : {M : MessageSet} {n plen plen' : ℕ} {root s t : List ℕ} → Gateway M n plen root s → Gateway M n plen' root t
    → Shown (height_of s) (held_by s) (held_by t) ⊎ ((l i : ℕ) (v : List ℕ) → Holds s l i v ↔ Holds t l i v)
same_held {n = n} {plen = plen} {plen' = plen'} {root = root} g k =
    let d = opened_names g.buffer n plen root g.octets.size g.opens in
    let e = opened_names k.buffer n plen' root k.octets.size k.opens in
    same_held_from (begins g) (begins k) (e.0 ∙ sym d.0) (e.1 ∙ sym d.1)
    (λ l i v.
    let p = root_alone g.buffer n plen root g.octets.size g.opens l i v in
    let q = root_alone k.buffer n plen' root k.octets.size k.opens l i v in
    (λ x. q.1 (p.0 x), λ x. p.1 (q.0 x)))
    (gateway_from g) (gateway_from k)
