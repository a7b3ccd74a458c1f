-- How a walk over the entries goes on, and how a path is compared element by element.
-- Assumes nothing.
use Rattle.std.specs.Prelude.{◌≡◌, Bool, true, false, List, [], ◌++◌, ℕ, ◌+◌, ◌-◌, ◌≤◌, length, drop, Option, Result}
use Rattle.std.proofs.Math.Path.{refl, ap}
use Rattle.std.proofs.Common.{sym, ◌∙◌, arith}
use Rattle.std.proofs.Math.Bool.{and-eq-true_iff}
use Rattle.limits.specs.Limits.{max_levels}
use Rattle.bencode.specs.Grammar.{Value, Items, no_items, item, encode, encode_items, Valid, ItemsValid}
use Rattle.bencode.specs.DepthLaws.{more_levels}
use Rattle.bencode.specs.PartsLaws.{after_part}
use Rattle.filetree.specs.Token.{ends_here}
use Rattle.halves.specs.V1Half.{V1Entry, entry_fits, entry_of, items_fit}
use Rattle.hybrid.specs.declared.EntryRead.{EntryRead}
use Rattle.hybrid.specs.declared.Malformed.{Malformed}
use Rattle.hybrid.specs.Entry.{StandsAt, PathStands, Reads, malformed, ended, entry_read}
use Rattle.hybrid.specs.EntryLaws.{ItemsAt, item_front, items_inside, same_entry}
use Rattle.hybrid.specs.Meet.{Next, no_file, file, next_file}
use Rattle.hybrid.specs.Ahead.{Ahead, NextIs, NextReads}

-- ---- the entry that stands next

-- at the end of the list stands an `e`
ends_at : (v : List ℕ) (i : ℕ) → ItemsAt v i no_items [] → ends_here (drop i v) ≡ true
ends_at v i e = unfold encode ends_here in ap ends_here e

next_padding : (x : Value) (ws : Items) → (entry_of x).padding ≡ true → next_file (item x ws) ≡ next_file ws
unfolding next_file
next_padding x ws e = rw e refl

next_one : (x : Value) (ws : Items) → (entry_of x).padding ≡ false → next_file (item x ws) ≡ file (entry_of x) ws
unfolding next_file
next_one x ws e = rw e refl

entry_same : (t u : Bool) (n m p k : ℕ) → t ≡ u → n ≡ m → entry_read t n p k ≡ entry_read u m p k
entry_same t u n m p k et en = rw (et, en) refl

next_file_is : (v : List ℕ) (us : Items) (e : V1Entry) (ws : Items) (r : Result (Option EntryRead) Malformed) → next_file us ≡ file e ws → NextIs v (file e ws) r → NextIs v (next_file us) r
next_file_is v us e ws r q h = rw q h

module _ (v : List ℕ) (i : ℕ) where
  -- what is read of an entry that lies ahead
  ahead_item : (x : Value) (ws : Items) → Ahead v i (item x ws) → (r : Result (Option EntryRead) Malformed) → Reads v i r
      → (p : ℕ) × (r ≡ entry_read (entry_of x).padding (entry_of x).size p (i + length (encode x))) × PathStands v p (entry_of x) × Ahead v (i + length (encode x)) ws
  ahead_item x ws a r s =
      let d : drop i v ≡ encode x ++ (encode_items ws ++ []) = a.items ∙ item_front x ws [] in
      let valid : Valid x (max_levels - 1) × ItemsValid ws (max_levels - 1) = unfold Valid in a.valid in
      let fit : (entry_fits x ≡ true) × (items_fit ws ≡ true) = unfold items_fit in (and-eq-true_iff (entry_fits x) (items_fit ws)).0 a.fit in
      let here : StandsAt v i x = record { behind = encode_items ws ++ []; bytes = d; valid = more_levels x (max_levels - 1) max_levels (omega arith) valid.0 } in
      let q = (s.item x here).fits fit.0 in
      (q.0, q.1, q.2, record { items = after_part v i (encode x) (encode_items ws ++ []) d; valid = valid.1; fit = fit.1 })

  pub ahead_ended : (us : Items) → Ahead v i us → Reads v i ended → us ≡ no_items
  ahead_ended no_items a s = refl
  ahead_ended (item x ws) a s = let q = (ahead_item x ws a ended s).1 in let z : ◌≡◌ {A = ℕ} 0 1 = cc in absurd (omega arith)

  -- nothing malformed
  pub ahead_bad : (us : Items) → Ahead v i us → Reads v i malformed → ⊥
  ahead_bad no_items a s = let q = s.closed (ends_at v i a.items) in let z : ◌≡◌ {A = ℕ} 0 1 = cc in omega arith
  ahead_bad (item x ws) a s = let q = (ahead_item x ws a malformed s).1 in let z : ◌≡◌ {A = ℕ} 0 1 = cc in omega arith

  pub ahead_inside : (us : Items) → Ahead v i us → length v ≤ i → ⊥
  ahead_inside us a h = items_inside v i us [] a.items h

  module _ (t : Bool) (n p k : ℕ) (s : Reads v i (entry_read t n p k)) where
    -- an entry: the next file, if it is none of padding
    pub ahead_entry : (us : Items) → Ahead v i us → (x : Value) × (ws : Items) × (us ≡ item x ws) × (t ≡ (entry_of x).padding) × (n ≡ (entry_of x).size) × PathStands v p (entry_of x) × Ahead v k ws
    ahead_entry no_items a = let q = s.closed (ends_at v i a.items) in let z : ◌≡◌ {A = ℕ} 0 1 = cc in absurd (omega arith)
    ahead_entry (item x ws) a =
        let m = ahead_item x ws a (entry_read t n p k) s in
        let o = same_entry t (entry_of x).padding n (entry_of x).size p m.0 k (i + length (encode x)) m.1 in
        (x, ws, refl, o.0, o.1, rw o.2 m.2, rw o.3 m.3)

    -- padding is passed over
    pub ahead_padding : (us : Items) → Ahead v i us → t ≡ true → (ws : Items) × Ahead v k ws × (next_file us ≡ next_file ws)
    ahead_padding us a e = let m = ahead_entry us a in (m.1, m.6, ap next_file m.2 ∙ next_padding m.0 m.1 (sym m.3 ∙ e))

    pub ahead_file : (us : Items) → Ahead v i us → t ≡ false → NextIs v (next_file us) (entry_read t n p k)
    ahead_file us a e =
        let m = ahead_entry us a in
        let z : (entry_of m.0).padding ≡ false = sym m.3 ∙ e in
        next_file_is v us (entry_of m.0) m.1 (entry_read t n p k) (ap next_file m.2 ∙ next_one m.0 m.1 z)
        (p, k, entry_same t false n (entry_of m.0).size p k e m.4, z, m.5, m.6)

-- ---- the walk to the next file

-- from `at` the walk has come to i, passing over padding alone
pub record Seeking (v : List ℕ) (at i : ℕ) : Type 0 where
  pub in_order : at ≤ i
  pub same : (us : Items) → Ahead v at us → (ws : Items) × Ahead v i ws × (next_file us ≡ next_file ws)

pub seek_start : (v : List ℕ) (at : ℕ) → Seeking v at at
seek_start v at = record { in_order = omega arith; same = λ us a. (us, a, refl) }

module _ (v : List ℕ) (at i : ℕ) (w : Seeking v at i) where
  pub seek_bad : Reads v i malformed → NextReads v at malformed
  seek_bad s = record { ends = tt; next = λ us a. let m = w.same us a in absurd (ahead_bad v i m.0 m.1 s) }

  pub seek_ended : Reads v i ended → NextReads v at ended
  unfolding next_file
  seek_ended s = record { ends = tt; next = λ us a. let m = w.same us a in let e : next_file us ≡ no_file = m.2 ∙ ap next_file (ahead_ended v i m.0 m.1 s) in rw e refl }

  pub seek_end : length v ≤ i → NextReads v at ended
  seek_end h = record { ends = tt; next = λ us a. let m = w.same us a in absurd (ahead_inside v i m.0 m.1 h) }

  module _ (t : Bool) (n p k : ℕ) (s : Reads v i (entry_read t n p k)) where
    pub seek_file : t ≡ false → NextReads v at (entry_read t n p k)
    seek_file e =
        let x = s.ends in
        let o = w.in_order in
        record { ends = (omega (arith, x.0), x.1); next = λ us a. let m = w.same us a in moved (next_file us) (next_file m.0) m.2 (ahead_file v i t n p k s m.0 m.1 e) }
      where
        moved : (x y : Next) → x ≡ y → NextIs v y (entry_read t n p k) → NextIs v x (entry_read t n p k)
        moved x y q h = rw q h

    pub seek_more : t ≡ true → Seeking v at k
    seek_more e =
        let x = s.ends in
        let o = w.in_order in
        record {
          in_order = omega (arith, x.0);
          same = λ us a. let m = w.same us a in let q = ahead_padding v i t n p k s m.0 m.1 e in (q.0, q.1, m.2 ∙ q.2);
        }
