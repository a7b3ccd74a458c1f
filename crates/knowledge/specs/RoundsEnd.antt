-- 02, request 14: the rounds end. A round that makes something newly held adds a position, and there are 2·2^h − 1; and it takes a message
-- for the first time, whose positions are then all held, so that it adds nothing in any later round.
-- Assumes nothing.
use Rattle.std.specs.Prelude.{◌≡◌, refl, Bool, true, false, ◌&&◌, ◌↔◌, ◌⊎◌, ℕ, zero, suc, ◌+◌, ◌-◌, ◌*◌, ◌^◌, ◌≤◌, ◌<◌, length, eqb, List, [], ◌∷◌}
use Rattle.std.proofs.Math.Path.{ap, sym}
use Rattle.std.proofs.Common.{◌∙◌, subst, arith, eq-eqb, eqb-true}
use Rattle.std.proofs.Math.Bool.{and-eq-true_iff}
use Rattle.std.proofs.Math.Logic.{inl, inr}
use Rattle.std.proofs.Math.Decide.{ℕ_discrete}
use Rattle.std.proofs.Math.Pow.{pow_pos}
use Rattle.octets.specs.Octets.{Octets}
use Rattle.cells.specs.Cells.{held_at}
use Rattle.cells.specs.Entries.{one_if}
use Rattle.store.specs.Store.{height_of, positions, open_answer, open_after, Facts}
use Rattle.store.specs.StoreLaws.{facts_usable, used_held, held_count}
use Rattle.marks.specs.Marks.{marks_put}
use Rattle.marks.specs.MarksLaws.{one_small}
use Rattle.messages.specs.Take.{take_number, take_after, take_answer}
use Rattle.words.specs.Held.{Holds}
use Rattle.words.specs.History.{Bytes, take, Steps, begin, next, call, Each, nothing, called, by_opening, OurStore, ours}
use Rattle.words.specs.Messages.{Settles, WellFormed, Acceptable}
use Rattle.words.specs.Hearing.{MessageSet, Among, first, later, Heard, Offered, last, before, Round, NothingNew, Gateway, GatewayFrom}
use Rattle.knowledge.specs.Through.{PreservedBy, each_through}
use Rattle.knowledge.specs.TakenWhen.{taken_well_formed}
use Rattle.knowledge.specs.MarksApart.{marks_held}
use Rattle.knowledge.specs.Grows.{Grown, grown_same, grown_on, grown_take, grown_marks, grown_moved, steps_grow}
use Rattle.knowledge.specs.Again.{grown_holds, number_stays}
use Rattle.knowledge.specs.OwnBytes.{ours_have}
use Rattle.knowledge.specs.FormedWhen.{well_formed}
use Rattle.knowledge.specs.HeldWhen.{taken_exactly_when}
use Rattle.knowledge.specs.HeldAfter.{settles_then_holds, held_after}
use Rattle.knowledge.specs.AnyOrder.{Within, back, take_stays, steps_then, each_then}
use Rattle.knowledge.specs.CountsAdd.{bit_less, count_most, count_root, quiet_or_more, quiet_count, take_counts}
use Rattle.numbers.specs.Tests.{either}

-- ---- a number that grows, up to a bound, wherever something is newly held

module _ (f : ℕ → List ℕ) (grade : ℕ → ℕ) (most : ℕ) (up : (k : ℕ) → grade k ≤ most)
    (step : (k : ℕ) → NothingNew (f k) (f (suc k)) ⊎ (grade k < grade (suc k))) where
  quiet_from : (d k : ℕ) → most ≤ d + k → k + grade 0 ≤ grade k → (j : ℕ) × (j + grade 0 ≤ most) × NothingNew (f j) (f (suc j))
  quiet_from zero k l c = elim (step k) [ inl q ↦ (k, omega (arith, up k), q) | inr m ↦ let w : ⊥ = omega (arith, up (suc k)) in absurd w ]
  quiet_from (suc d) k l c = elim (step k) [ inl q ↦ (k, omega (arith, up k), q) | inr m ↦ quiet_from d (suc k) (omega arith) (omega arith) ]

  early_quiet : (k : ℕ) × (k + grade 0 ≤ most) × NothingNew (f k) (f (suc k))
  early_quiet = quiet_from most 0 (omega arith) (omega arith)

-- ---- messages that are done

-- a store takes the message, and holds all that it settles
record Done (s m : List ℕ) : Type 0 where
  taken : take_number s m ≡ 0
  all : (l i : ℕ) (v : List ℕ) → Settles m l i v → Holds s l i v

-- so does every store that took it,
taken_done : (s m : List ℕ) → take_number s m ≡ 0 → Done (take_after s m) m
taken_done s m z = record { taken = number_stays s m begin (λ e. omega (arith, z, e)) ∙ z; all = settles_then_holds s m z }

-- and every store that has grown from such a one
done_grows : (s t m : List ℕ) → Facts s → Grown s t → Done s m → Done t m
done_grows s t m f g d = record { taken = (taken_exactly_when t m ((well_formed t m).0 there)).1 acceptable; all = held_there }
  where
    held_there : (l i : ℕ) (v : List ℕ) → Settles m l i v → Holds t l i v
    held_there l i v x = grown_holds s t f g l i v (d.all l i v x)

    here : WellFormed s m
    here = (well_formed s m).1 (taken_well_formed s m d.taken)

    there : WellFormed t m
    there =
        record {
          ruled =
              record {
                store = facts_usable t g.facts;
                form = here.ruled.form;
                root = g.same.root ∙ here.ruled.root;
                rules = rw g.same.layers here.ruled.rules;
              };
          size = here.size;
        }

    acceptable : Acceptable t m
    acceptable =
        let A = (taken_exactly_when s m (taken_well_formed s m d.taken)).0 d.taken in
        record {
          padding = rw g.same.blocks A.padding;
          w = A.w;
          held = grown_holds s t f g _ _ A.w A.held;
          chains = A.chains;
          agree = λ l i v w x h. sym h.hash ∙ (held_there l i v x).hash;
        }

-- whether it is: its number is 0, and so is its count
unfoldable done_in : List ℕ → List ℕ → Bool
done_in s m = eqb (take_number s m) 0 && eqb (take_answer s m).count 0

module _ (s m : List ℕ) (f : Facts s) where
  grown_there : Grown s (take_after s m)
  grown_there = grown_take s m f

  done_true : done_in s m ≡ true → Done s m
  unfolding done_in
  done_true e =
      let b = (and-eq-true_iff (eqb (take_number s m) 0) (eqb (take_answer s m).count 0)).0 e in
      let z = eqb-true (take_number s m) 0 b.0 in
      let n = eqb-true (take_answer s m).count 0 b.1 in
      let c = take_counts s f m in
      elim (quiet_or_more s (take_after s m) f grown_there) [
        | inl q ↦ record { taken = z; all = λ l i v x. q l i v (settles_then_holds s m z l i v x) }
        | inr l ↦ let w : ⊥ = omega arith in absurd w
      ]

  true_done : Done s m → done_in s m ≡ true
  unfolding done_in
  true_done d =
      let q : NothingNew s (take_after s m) = λ l i v h. elim ((held_after s m d.taken l i v).0 h) [ inl k ↦ k | inr k ↦ d.all l i v k ] in
      let b = quiet_count s (take_after s m) f grown_there q in
      let c = take_counts s f m in
      rw (eq-eqb (take_number s m) 0 d.taken, eq-eqb (take_answer s m).count 0 (omega arith))

-- ---- a round makes nothing newly held, or a message is done that was not

-- a message that was not done in s is done in u
record NewlyDone (M : MessageSet) (s u : List ℕ) : Type 0 where
  m : List ℕ
  heard : M m
  before : done_in s m ≡ false
  now : Done u m

module _ (M : MessageSet) (s : List ℕ) (fs : Facts s) where
  Moved : List ℕ → Type 0
  Moved u = Grown s u × (Within u s ⊎ NewlyDone M s u)

  still_moved : (u v : List ℕ) → Facts u → Grown u v → NewlyDone M s u → NewlyDone M s v
  still_moved u v f g d = record { m = d.m; heard = d.heard; before = d.before; now = done_grows u v d.m f g d.now }

  took : (u m : List ℕ) → M m → Within u s → Within (take_after u m) s ⊎ NewlyDone M s (take_after u m)
  took u m y w =
      elim (ℕ_discrete (take_number u m) 0) [
        | no ne ↦ inl (subst (λ (x : List ℕ). Within x s) (sym (take_stays u m ne)) w)
        | yes z ↦ elim (either (done_in s m)) [
          | inl t ↦ inl (λ l i v h. elim ((held_after u m z l i v).0 h) [ inl k ↦ w l i v k | inr k ↦ (done_true s m fs t).all l i v k ])
          | inr n ↦ inr (record { m = m; heard = y; before = n; now = taken_done u m z })
        ]
      ]

  same_moved : (u v : List ℕ) → Moved u → Grown u v → ((q : ℕ) → q < positions (height_of u) → held_at v q ≡ held_at u q) → Moved v
  unfolding Moved
  same_moved u v p g e = (
    grown_on p.0 g,
    elim p.1 [
      | inl w ↦ inl (λ l i x h. w l i x (back u v p.0.facts g (λ q lo hi k. sym (e q hi) ∙ k) l i x h))
      | inr d ↦ inr (still_moved u v p.0.facts g d)
    ],
  )

  moves : PreservedBy (Heard M) Moved
  unfolding Moved
  moves =
      record {
        taken =
            λ u m b y p. (
              grown_on p.0 (grown_take u m p.0.facts),
              elim p.1 [ inl w ↦ took u m y w | inr d ↦ inr (still_moved u (take_after u m) p.0.facts (grown_take u m p.0.facts) d) ],
            );
        loaded = λ u l b y p. absurd y;
        remarked = λ u i n x f l c p. unfold Moved in same_moved u (marks_put u i n x) p (grown_marks u i n x f l) (marks_held u f i n x l);
        moved = λ u v b e p. unfold Moved in same_moved u v p (grown_moved u v p.0.facts e) (used_held u v p.0.facts e.bytes);
      }

  quiet_or_done : {t : List ℕ} {h : Steps s t} → Each (Heard M) t h → NothingNew s t ⊎ NewlyDone M s t
  unfolding Moved
  quiet_or_done w = (each_through (Heard M) Moved moves w (grown_same s fs, inl (λ l i v h. h))).1

-- ---- how many of a list are done

unfoldable done_among : List ℕ → List (List ℕ) → ℕ
done_among s [] = 0
done_among s (m ∷ L) = one_if (done_in s m) + done_among s L

done_most : (s : List ℕ) (L : List (List ℕ)) → done_among s L ≤ length L
unfolding done_among
done_most s [] = omega arith
done_most s (m ∷ L) = omega (arith, done_most s L, one_small (done_in s m))

module _ (s t : List ℕ) (f : Facts s) (g : Grown s t) where
  done_on : (m : List ℕ) → done_in s m ≡ true → done_in t m ≡ true
  done_on m e = true_done t m g.facts (done_grows s t m f g (done_true s m f e))

  done_more : (L : List (List ℕ)) → done_among s L ≤ done_among t L
  unfolding done_among
  done_more [] = omega arith
  done_more (m ∷ L) = omega (arith, done_more L, bit_less (done_in s m) (done_in t m) (done_on m))

  -- one more where one of them was not
  done_one_more : (m : List ℕ) (L : List (List ℕ)) → Among m L → done_in s m ≡ false → done_in t m ≡ true → done_among s L < done_among t L
  unfolding done_among
  done_one_more m (k ∷ L) first a b = omega (arith, done_more L, ap one_if a, ap one_if b)
  done_one_more m (k ∷ L) (later i) a b = omega (arith, done_one_more m L i a b, bit_less (done_in s k) (done_in t k) (done_on k))
  done_one_more m [] x3 a b = elim x3 [ ]

-- ---- the rounds end

module _ {M : MessageSet} (f : ℕ → List ℕ) (o : OurStore (f 0)) (r : (k : ℕ) → Round M (f k) (f (suc k))) where
  grown_to : (k : ℕ) → Grown (f 0) (f k)
  grown_to zero = grown_same (f 0) (ours_have o).chained.facts
  grown_to (suc k) = let g = grown_to k in grown_on g (steps_grow g.facts (r k).history)

  round_grows : (k : ℕ) → Grown (f k) (f (suc k))
  round_grows k = steps_grow (grown_to k).facts (r k).history

  -- BY POSITIONS: of any rounds that follow each other, one of the first 2·2^h − 1 makes nothing newly held; the root is held from the opening on
  pub rounds_settle : (k : ℕ) × (k ≤ 2 * 2 ^ height_of (f 0) - 2) × NothingNew (f k) (f (suc k))
  unfolding positions
  rounds_settle =
      let w = early_quiet f (λ k. held_count (2 * 2 ^ height_of (f 0) - 1) (f k)) (2 * 2 ^ height_of (f 0) - 1) (λ k. count_most (2 * 2 ^ height_of (f 0) - 1) (f k)) more_held in
      let a = count_root (2 * 2 ^ height_of (f 0) - 1) (f 0) (ours_have o).chained.root.0 (omega (arith, pow_pos (height_of (f 0)))) in
      (w.0, omega (arith, w.1, a), w.2)
    where
      more_held : (k : ℕ) → NothingNew (f k) (f (suc k)) ⊎ (held_count (2 * 2 ^ height_of (f 0) - 1) (f k) < held_count (2 * 2 ^ height_of (f 0) - 1) (f (suc k)))
      more_held k = unfold positions in elim (quiet_or_more (f k) (f (suc k)) (grown_to k).facts (round_grows k)) [ inl q ↦ inl q | inr l ↦ inr (rw (grown_to k).same.layers at l) ]

  -- BY MESSAGES: where there are n of them, one of the first n + 1
  pub rounds_few : (L : List (List ℕ)) → ((m : List ℕ) → M m → Among m L) → (k : ℕ) × (k ≤ length L) × NothingNew (f k) (f (suc k))
  rounds_few L i =
      let w = early_quiet f (λ k. done_among (f k) L) (length L) (λ k. done_most (f k) L) more_done in
      (w.0, omega (arith, w.1), w.2)
    where
      more_done : (k : ℕ) → NothingNew (f k) (f (suc k)) ⊎ (done_among (f k) L < done_among (f (suc k)) L)
      more_done k =
          elim (quiet_or_done M (f k) (grown_to k).facts (r k).only) [
            | inl q ↦ inl q
            | inr d ↦
                inr
                (done_one_more (f k) (f (suc k)) (grown_to k).facts (round_grows k) d.m L (i d.m d.heard) d.before
                (true_done (f (suc k)) d.m (round_grows k).facts d.now))
          ]

-- ---- rounds from an opening on

module _ {M : MessageSet} (f : ℕ → List ℕ) (r : (k : ℕ) → Round M (f k) (f (suc k))) where
  until_round : (k : ℕ) → (h : Steps (f 0) (f k)) × Each (Heard M) (f k) h
  until_round zero = (begin, nothing)
  until_round (suc k) = let w = until_round k in (steps_then w.0 (r k).history, each_then w.1 (r k).only)

  -- up to one that makes nothing newly held, they leave a gateway's store, from whatever they began with
  pub rounds_heard_from : (k : ℕ) → NothingNew (f k) (f (suc k)) → GatewayFrom M (f 0) (f (suc k))
  rounds_heard_from k q = let w = until_round k in record { began = f k; history = w.0; only = w.1; round = r k; quiet = q }

  pub rounds_heard : {b : List ℕ} {n plen : ℕ} {root : List ℕ} → Bytes b → Octets 32 root → (open_answer b n plen).number ≡ 0 → f 0 ≡ open_after b n plen root
      → (k : ℕ) → NothingNew (f k) (f (suc k)) → Gateway M n plen root (f (suc k))
  rounds_heard {b} {n} {plen} {root} bb o z e k q =
      let w = subst (λ (x : List ℕ). (h : Steps x (f k)) × Each (Heard M) (f k) h) e (until_round k) in
      record { buffer = b; bytes = bb; octets = o; opens = z; began = f k; history = w.0; only = w.1; round = r k; quiet = q }

-- ---- every list of messages can be heard so

-- each offered once, from the last to the first
unfoldable pub offer_all : List (List ℕ) → List ℕ → List ℕ
offer_all [] s = s
offer_all (m ∷ L) s = take_after (offer_all L s) m

module _ (M : MessageSet) (s : List ℕ) where
  offers : (L : List (List ℕ)) → ((m : List ℕ) → Among m L → Bytes m) → Steps s (offer_all L s)
  unfolding offer_all
  offers [] b = begin
  offers (m ∷ L) b = next (offers L (λ k i. b k (later i))) (call (take m (b m first)) (λ x. absurd x))

  heard_offers : (L : List (List ℕ)) (b : (m : List ℕ) → Among m L → Bytes m) → ((m : List ℕ) → Among m L → M m) → Each (Heard M) (offer_all L s) (offers L b)
  unfolding offer_all offers
  heard_offers [] b i = nothing
  heard_offers (m ∷ L) b i = called (take m (b m first)) (λ x. absurd x) (heard_offers L (λ k j. b k (later j)) (λ k j. i k (later j))) (i m first)

  offered_once : (L : List (List ℕ)) (b : (m : List ℕ) → Among m L → Bytes m) (m : List ℕ) → Among m L → Offered m (offer_all L s) (offers L b)
  unfolding offer_all offers
  offered_once (k ∷ L) b m first = last (offers L (λ k i. b k (later i))) (b m first) (λ x. absurd x)
  offered_once (k ∷ L) b m (later i) = before (call (take k (b k first)) (λ x. absurd x)) (offered_once L (λ k j. b k (later j)) m i)
  offered_once [] b m x' = elim x' [ ]

-- each message of a list offered once is a whole round of any set that has these messages and no others
pub round_of : (M : MessageSet) (L : List (List ℕ)) → ((m : List ℕ) → Among m L → Bytes m) → ((m : List ℕ) → M m ↔ Among m L) → (s : List ℕ) → Round M s (offer_all L s)
round_of M L b e s =
    record { history = offers M s L b; only = heard_offers M s L b (λ m i. (e m).1 i); each = λ m y. offered_once M s L b m ((e m).0 y) }

unfoldable turned : List (List ℕ) → List ℕ → ℕ → List ℕ
turned L s zero = s
turned L s (suc k) = offer_all L (turned L s k)

turns : (L : List (List ℕ)) → ((m : List ℕ) → Among m L → Bytes m) → (s : List ℕ) (k : ℕ) → Round (λ m. Among m L) (turned L s k) (turned L s (suc k))
unfolding turned
turns L b s k = round_of (λ m. Among m L) L b (λ m. (λ x. x, λ x. x)) (turned L s k)

-- EVERY LIST OF MESSAGES, offered again and again to a store that was opened, leaves a gateway's store
pub gateway_exists : (L : List (List ℕ)) → ((m : List ℕ) → Among m L → Bytes m) → (b : List ℕ) (n plen : ℕ) (root : List ℕ) → Bytes b → Octets 32 root
    → (open_answer b n plen).number ≡ 0 → (s : List ℕ) × Gateway (λ m. Among m L) n plen root s
unfolding turned
gateway_exists L bytes b n plen root bb o z =
    let s = open_after b n plen root in
    let r = turns L bytes s in
    let w = rounds_settle (turned L s) (ours (by_opening b n plen root bb o z) begin) r in
    (turned L s (suc w.0), rounds_heard (turned L s) r bb o z refl w.0 w.2)

-- and to any store of ours
pub gateway_exists_from : (L : List (List ℕ)) → ((m : List ℕ) → Among m L → Bytes m) → {s : List ℕ} → OurStore s → (t : List ℕ) × GatewayFrom (λ m. Among m L) s t
unfolding turned
gateway_exists_from L bytes {s} o =
    let r = turns L bytes s in
    let w = rounds_settle (turned L s) o r in
    (turned L s (suc w.0), rounds_heard_from (turned L s) r w.0 w.2)
