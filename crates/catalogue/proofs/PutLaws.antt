-- The records of a directory's files written by a walk that keeps the path.
-- Assumes nothing.
use Rattle.catalogue.specs.Asks.{past}
use Rattle.std.specs.Prelude.{◌≡◌, refl, true, List, [], ◌∷◌, ◌++◌, ℕ, ◌+◌, ◌-◌, ◌*◌, ◌≤◌, ◌<◌, length, get_or, set, Option, None, unwrap_or}
use Rattle.std.proofs.Common.{sym, ap, ◌∙◌, arith, length-append, length-set, get_or-set_same, get_or-set_other}
use Rattle.std.proofs.Math.Decide.{dec_lt}
use Rattle.limits.specs.Limits.{largest_torrent}
use Rattle.octets.specs.Octets.{pasted}
use Rattle.octets.specs.OctetsLaws.{pasted_append, pasted_none}
use Rattle.filetree.specs.Token.{token_at, opened_token, closed_token, leaf_token}
use Rattle.filetree.specs.TokenLaws.{leaf_ends, opened_ends}
use Rattle.filetree.specs.Tree.{max_elements, Element, Listed, listed_as, down, Files, wrong, files, files_from, files_below, files_in, right, listed}
use Rattle.filetree.specs.TreeLaws.{tree_below, FilesPassed, passed_none, passed_bad, passed_end, passed_closed, passed_file, passed_wrong, passed_directory, split, same_files_lem, not_wrong, is_right}
use Rattle.filetree.specs.Path.{set_element, flat, Holds}
use Rattle.filetree.specs.PathLaws.{holds_length, holds_down, holds_still, set_length}
use Rattle.layers.specs.JudgeLaws.{tree_some}
use Rattle.torrent.specs.Find.{PathGiven}
use Rattle.torrent.specs.FindLaws.{holds_up, right_is}
use Rattle.catalogue.specs.Catalogue.{Parts, record_size, records_of}
use Rattle.catalogue.specs.Asks.{record_from, RecordRight, parts_with, SpotRight, Recorded, Puts}
use Rattle.catalogue.proofs.CatalogueLaws.{same_record, record_length, records_append, records_one}
use Rattle.catalogue.specs.declared.Spot.{Spot}
use Rattle.catalogue.specs.declared.Put.{Put}

-- ---- the path

module _ (path : List ℕ) (d a b : ℕ) where
  -- an element behind the first d leaves them
  kept : (j : ℕ) → j < 2 * d → get_or (set_element path d a b) j 0 ≡ get_or path j 0
  kept j h = get_or-set_other (set path (2 * d) a) (2 * d + 1) j b 0 (λ e. omega arith) ∙ get_or-set_other path (2 * d) j a 0 (λ e. omega arith)

  starts : 2 * d < length path → get_or (set_element path d a b) (2 * d) 0 ≡ a
  starts h = get_or-set_other (set path (2 * d) a) (2 * d + 1) (2 * d) b 0 (λ q. omega arith) ∙ get_or-set_same path (2 * d) a 0 h

  ends_at : 2 * d + 1 < length path → get_or (set_element path d a b) (2 * d + 1) 0 ≡ b
  ends_at h = get_or-set_same (set path (2 * d) a) (2 * d + 1) b 0 (omega (arith, length-set path (2 * d) a))

  module _ (base : ℕ) (w : PathGiven path d base) where
    given_still : PathGiven (set_element path d a b) d base
    given_still =
        record {
          sized = set_length path d a b ∙ w.sized;
          few = w.few;
          forward = λ j h. rw (kept (2 * j) (omega arith), kept (2 * j + 1) (omega arith)) (w.forward j h);
          inside = λ j h. rw (kept (2 * j + 1) (omega arith)) (w.inside j h);
        }

    given_down : d < max_elements → a ≤ b → base + b ≤ largest_torrent → PathGiven (set_element path d a b) (d + 1) base
    given_down l ab bb =
        record {
          sized = set_length path d a b ∙ w.sized;
          few = omega arith;
          forward = λ j h. by_last j (dec_lt j d) h;
          inside = λ j h. in_last j (dec_lt j d) h;
        }
      where
        at_last : (j : ℕ) → (j < d → ⊥) → j < d + 1 → j ≡ d
        at_last j n h = omega arith

        by_last : (j : ℕ) → Dec (j < d) → j < d + 1 → get_or (set_element path d a b) (2 * j) 0 ≤ get_or (set_element path d a b) (2 * j + 1) 0
        by_last j (yes g) h = rw (kept (2 * j) (omega arith), kept (2 * j + 1) (omega arith)) (w.forward j g)
        by_last j (no g) h = let z = w.sized in rw (at_last j g h) (rw (starts (omega arith), ends_at (omega arith)) ab)

        in_last : (j : ℕ) → Dec (j < d) → j < d + 1 → base + get_or (set_element path d a b) (2 * j + 1) 0 ≤ largest_torrent
        in_last j (yes g) h = rw (kept (2 * j + 1) (omega arith)) (w.inside j g)
        in_last j (no g) h = let z = w.sized in rw (at_last j g h) (rw (ends_at (omega arith)) bb)

given_less : (path : List ℕ) (d base : ℕ) → PathGiven path (d + 1) base → PathGiven path d base
given_less path d base w = let x = w.few in record { sized = w.sized; few = omega arith; forward = λ j h. w.forward j (omega arith); inside = λ j h. w.inside j (omega arith) }

-- ---- the records

-- others behind them
more_records : (q : Parts) (out₀ out₁ out : List ℕ) (to : ℕ) (fs gs : List Listed) → out₁ ≡ pasted out₀ to (records_of q fs) → length (records_of q fs) ≡ record_size * length fs → length (records_of q gs) ≡ record_size * length gs
    → out ≡ pasted out₁ (to + record_size * length fs) (records_of q gs) → to + record_size * length fs + record_size * length gs ≤ length out₀
    → (out ≡ pasted out₀ to (records_of q (fs ++ gs))) × (length (records_of q (fs ++ gs)) ≡ record_size * length (fs ++ gs))
more_records q out₀ out₁ out to fs gs e lf lg f h = (
  f ∙ ap (λ (z : List ℕ). pasted z (to + record_size * length fs) (records_of q gs)) e ∙ ap (λ (z : ℕ). pasted (pasted out₀ to (records_of q fs)) (to + z) (records_of q gs)) (sym lf)
      ∙ pasted_append out₀ to (records_of q fs) (records_of q gs) (omega arith) ∙ ap (pasted out₀ to) (sym (records_append q fs gs)),
  ap length (records_append q fs gs) ∙ length-append (records_of q fs) (records_of q gs) ∙ omega (arith, length-append fs gs),
)

same_past : (k j m n : ℕ) → past k m ≡ past j n → (k ≡ j) × (m ≡ n)
same_past k j m n e =
    let the : Option Put → Put = λ w. unwrap_or w (record { next = k; to = m }) in
    (ap (λ w. (the w).next) e, ap (λ w. (the w).to) e)

-- ---- how far the writing has come

pub record PutAt (t l : List ℕ) (s : Spot) (path₀ path out₀ out : List ℕ) (below i to : ℕ) : Type 0 where
  pub in_order : s.at ≤ i
  pub given : PathGiven path (max_elements - s.levels) s.list.tree
  pub sized : length out ≡ length out₀
  pub fits : to ≤ length out₀
  pub early : to ≤ record_size * i
  pub passed : (p : List Element) → Holds path₀ (max_elements - s.levels) p → right (files_below s.levels t s.at p) ≡ true
      → s.to + record_size * length (listed (files_below s.levels t s.at p)) ≤ length out₀
      → (fs : List Listed) × FilesPassed t (files_below s.levels t s.at p) below p i fs × (to ≡ s.to + record_size * length fs)
      × (out ≡ pasted out₀ s.to (records_of (parts_with t l s.list) fs)) × (length (records_of (parts_with t l s.list) fs) ≡ record_size * length fs) × Holds path (max_elements - s.levels) p

none_written : (q : Parts) (out : List ℕ) (to : ℕ) → (to ≡ to + record_size * 0) × (out ≡ pasted out to (records_of q [])) × (length (records_of q []) ≡ record_size * 0)
unfolding records_of
none_written q out to = (omega arith, sym (pasted_none out to), refl)

pub put_start : {t l : List ℕ} {s : Spot} {path out : List ℕ} → (s.levels ≡ 0 → ⊥) → SpotRight (length t) (length l) (length out) path s → PutAt t l s path path out out (s.levels - 1) s.at s.to
put_start {t} {l} {s} {out} h w =
    let n = none_written (parts_with t l s.list) out s.to in
    record { in_order = omega arith; given = w.given; sized = refl; fits = w.fits; early = w.early; passed = λ p o e g. ([], passed_none t s.levels s.at p h, n.0, n.1, n.2, o) }

files_listed : (x : Files) (fs : List Listed) (k : ℕ) → x ≡ files fs k → listed x ≡ fs
unfolding listed
files_listed x fs k e = ap listed e

-- a directory that is wrong, or for which there is no room
pub puts_never : (t l : List ℕ) (s : Spot) (path₀ path out₀ out : List ℕ) → PathGiven path (max_elements - s.levels) s.list.tree
    → ((p : List Element) → Holds path₀ (max_elements - s.levels) p → right (files_below s.levels t s.at p) ≡ true → s.to + record_size * length (listed (files_below s.levels t s.at p)) ≤ length out₀ → ⊥)
    → Puts t l s path₀ path out₀ out None
puts_never t l s path₀ path out₀ out g h =
    record {
      ends = tt;
      given = g;
      puts = λ p o fs k e r. absurd (h p o (is_right (files_below s.levels t s.at p) fs k e) (rw (files_listed (files_below s.levels t s.at p) fs k e) r));
    }

-- a directory inside ends behind its opening
pub inside_behind : {t l : List ℕ} {s : Spot} {path path' out out' : List ℕ} (i : ℕ) {a b k m : ℕ} → token_at t i ≡ opened_token a b → Puts t l s path path' out out' (past k m) → s.at ≡ b + 1
    → (i < k) × (k ≤ length t)
inside_behind {t} i {a} {b} e x q = let y = x.ends.0 in let z = (opened_ends t i a b e).0 in (omega arith, x.ends.1)

module _ {t l : List ℕ} {s : Spot} {path₀ path out₀ out : List ℕ} {below i to : ℕ} (w : PutAt t l s path₀ path out₀ out below i to) where
  abbrev whole : List Element → Files
  whole p = files_below s.levels t s.at p

  abbrev depth : ℕ
  depth = max_elements - s.levels

  abbrev q : Parts
  q = parts_with t l s.list

  pub puts_bad : token_at t i ≡ None → Puts t l s path₀ path out₀ out None
  puts_bad e = puts_never t l s path₀ path out₀ out w.given (λ p o r g. let x = w.passed p o r g in not_wrong (whole p) r (passed_bad t (whole p) below p i x.0 x.1 e))

  pub puts_end : length t ≤ i → Puts t l s path₀ path out₀ out None
  puts_end e = puts_never t l s path₀ path out₀ out w.given (λ p o r g. let x = w.passed p o r g in not_wrong (whole p) r (passed_end t (whole p) below p i x.0 x.1 e))

  module _ (h : i < length t) where
    pub puts_closed : token_at t i ≡ closed_token → Puts t l s path₀ path out₀ out (past (i + 1) to)
    puts_closed e = record { ends = (let x = w.in_order in omega arith, omega arith, w.fits, let x = w.early in omega arith); given = w.given; puts = go }
      where
        go : (p : List Element) → Holds path₀ depth p → (fs : List Listed) (k : ℕ) → whole p ≡ files fs k → s.to + record_size * length fs ≤ length out₀
            → Recorded q fs k s.to out₀ out (past (i + 1) to) × Holds path depth p
        go p o fs k e' r =
            let x = w.passed p o (is_right (whole p) fs k e') (rw (files_listed (whole p) fs k e') r) in
            let y = same_files_lem x.0 fs (i + 1) k (sym (passed_closed t (whole p) below p i x.0 x.1 h e) ∙ e') in (
              record {
                answer = rw (y.1, x.2) (ap (λ (z : List Listed). past k (s.to + record_size * length z)) y.0);
                records = x.3 ∙ ap (λ (z : List Listed). pasted out₀ s.to (records_of q z)) y.0;
                size = rw y.0 at x.4;
              },
              x.5,
            )

    module _ {a b n r k : ℕ} (e : token_at t i ≡ leaf_token a b n r k) where
      -- how many files there are at least
      at_least : (p : List Element) (o : Holds path₀ depth p) (u : right (whole p) ≡ true) (g : s.to + record_size * length (listed (whole p)) ≤ length out₀) → to + record_size ≤ length out₀
      at_least p o u g =
          let x = w.passed p o u g in
          let y = passed_file t (whole p) below p i x.0 x.1 h a b n r k e in
          let f = listed_as n r (down p a b) in
          let v = right_is (whole p) u in
          let z = split (x.0 ++ f ∷ []) (files_from (files_below below t) y.steps t k p) v.0 v.1 (sym y.rest ∙ v.2) in
          let is : listed (whole p) ≡ (x.0 ++ f ∷ []) ++ z.0 = files_listed (whole p) v.0 v.1 v.2 ∙ z.1 in
          let m = x.2 in
          omega (arith, ap length is, length-append (x.0 ++ f ∷ []) z.0, length-append x.0 (f ∷ []))

      pub puts_full : length out - to < record_size → Puts t l s path₀ path out₀ out None
      puts_full g = puts_never t l s path₀ path out₀ out w.given (λ p o u v. let x = at_least p o u v in let y = w.sized in let z = w.fits in omega arith)

      module _ (c : SpotRight (length t) (length l) (length out₀) path₀ s) (nz : s.levels ≡ 0 → ⊥) (room : record_size ≤ length out - to) {path' : List ℕ} (ep : path' ≡ set_element path depth a b) where
        low : depth < max_elements
        low = let x = c.shallow in omega arith

        pub record_right : RecordRight (length t) (length l) (length out) path' (record { list = s.list; length = n; root = r; elements = depth + 1; at = to })
        record_right =
            let x = leaf_ends t i a b n r k e in
            let y = c.tree_within in
            let z = x.5 in
            let u = w.fits in
            let v = w.sized in
            record { root_within = λ m. (x.2 m).1; layers_within = c.layers_within; path_given = rw ep (given_down path depth a b s.list.tree w.given low x.4 (omega arith)); fits = omega arith }

        pub put_next : {out' : List ℕ} → out' ≡ pasted out to (record_from t l path' (record { list = s.list; length = n; root = r; elements = depth + 1; at = to })) → length out' ≡ length out
            → PutAt t l s path₀ path' out₀ out' below k (to + record_size)
        put_next {out'} eo lo =
            record {
              in_order = let x = w.in_order in let y = (leaf_ends t i a b n r k e).0 in omega arith;
              given = rw ep (given_still path depth a b s.list.tree w.given);
              sized = lo ∙ w.sized;
              fits = let x = w.sized in let y = w.fits in omega arith;
              early = let x = w.early in let y = (leaf_ends t i a b n r k e).0 in omega arith;
              passed = go;
            }
          where
            go : (p : List Element) → Holds path₀ depth p → right (whole p) ≡ true → s.to + record_size * length (listed (whole p)) ≤ length out₀
                → (fs : List Listed) × FilesPassed t (whole p) below p k fs × (to + record_size ≡ s.to + record_size * length fs)
                × (out' ≡ pasted out₀ s.to (records_of q fs)) × (length (records_of q fs) ≡ record_size * length fs) × Holds path' depth p
            go p o u g =
                let x = w.passed p o u g in
                let f = listed_as n r (down p a b) in
                let d : depth ≡ length p = holds_length path depth p w.given.sized x.5 (omega arith) in
                let d1 : depth + 1 ≡ length (down p a b) = ap (λ (z : ℕ). z + 1) d ∙ sym (length-append p (record { start = a; end = b } ∷ [])) in
                let hold : Holds path' (depth + 1) (down p a b) = rw ep (holds_down path depth p w.given.sized x.5 a b low) in
                let rec : record_from t l path' (record { list = s.list; length = n; root = r; elements = depth + 1; at = to }) ≡ records_of q (f ∷ []) = same_record t l path' s.list n r (depth + 1) to (down p a b) hold d1 ∙ sym (records_one q f) in
                let one : length (records_of q (f ∷ [])) ≡ record_size * length (f ∷ []) = ap length (records_one q f) ∙ record_length q f (λ m. ((leaf_ends t i a b n r k e).2 m).1) in
                let m = x.2 in
                let fit = at_least p o u g in
                let y = more_records q out₀ out out' s.to x.0 (f ∷ []) x.3 x.4 one (eo ∙ ap (pasted out to) rec ∙ ap (λ (z : ℕ). pasted out z (records_of q (f ∷ []))) m) (omega arith) in
                (x.0 ++ f ∷ [], passed_file t (whole p) below p i x.0 x.1 h a b n r k e, omega (arith, length-append x.0 (f ∷ [])), y.0, y.1, rw ep (holds_still path depth p a b x.5))

    module _ {a b : ℕ} (e : token_at t i ≡ opened_token a b) (c : SpotRight (length t) (length l) (length out₀) path₀ s) (nz : s.levels ≡ 0 → ⊥) (lb : below ≡ s.levels - 1) {path' : List ℕ} (ep : path' ≡ set_element path depth a b) where
      abbrev inner : Spot
      inner = record { list = s.list; at = b + 1; levels = below; to = to }

      deep : max_elements - below ≡ depth + 1
      deep = let x = c.shallow in omega arith

      pub inner_right : (o : List ℕ) → length o ≡ length out → SpotRight (length t) (length l) (length o) path' inner
      inner_right o lo =
          let x = opened_ends t i a b e in
          let y = x.1 in
          let z = c.tree_within in
          let u = w.fits in
          let v = w.sized in
          let g = c.shallow in
          record {
            tree_within = z;
            layers_within = c.layers_within;
            shallow = omega arith;
            given = rw (deep, ep) (given_down path depth a b s.list.tree w.given (omega arith) x.2 (omega arith));
            fits = omega arith;
            early = let k = w.early in let m = x.0 in omega arith;
          }

      -- the directory inside is right if the whole is, and has room
      inside_right : (p : List Element) → Holds path₀ depth p → right (whole p) ≡ true → s.to + record_size * length (listed (whole p)) ≤ length out₀
          → (gs : List Listed) × (j : ℕ) × (files_below below t (b + 1) (down p a b) ≡ files gs j) × (to + record_size * length gs ≤ length out₀)
      inside_right p o u g = by_files (files_below below t (b + 1) (down p a b)) refl
        where
          by_files : (y : Files) → files_below below t (b + 1) (down p a b) ≡ y → (gs : List Listed) × (j : ℕ) × (files_below below t (b + 1) (down p a b) ≡ files gs j) × (to + record_size * length gs ≤ length out₀)
          by_files wrong v = let x = w.passed p o u g in not_wrong (whole p) u (passed_wrong t (whole p) below p i x.0 x.1 h a b e v)
          by_files (files gs j) v =
              let x = w.passed p o u g in
              let y = passed_directory t (whole p) below p i x.0 x.1 h a b e gs j v in
              let k = right_is (whole p) u in
              let z = split (x.0 ++ gs) (files_from (files_below below t) y.steps t j p) k.0 k.1 (sym y.rest ∙ k.2) in
              let is : listed (whole p) ≡ (x.0 ++ gs) ++ z.0 = files_listed (whole p) k.0 k.1 k.2 ∙ z.1 in
              let m = x.2 in
              (gs, j, v, omega (arith, ap length is, length-append (x.0 ++ gs) z.0, length-append x.0 gs))

      held : (p : List Element) → Holds path depth p → Holds path' (max_elements - below) (down p a b)
      held p o = rw (deep, ep) (holds_down path depth p w.given.sized o a b (let x = c.shallow in omega arith))

      module _ {path'' out'' : List ℕ} (lo : length out'' ≡ length out) where
        inside_puts : (r : Option Put) → Puts t l inner path' path'' out out'' r → (p : List Element) (o : Holds path₀ depth p) (u : right (whole p) ≡ true) (g : s.to + record_size * length (listed (whole p)) ≤ length out₀)
            → Recorded q (inside_right p o u g).0 (inside_right p o u g).1 to out out'' r × Holds path'' (max_elements - below) (down p a b)
        inside_puts r x p o u g =
            let y = inside_right p o u g in
            let z = w.sized in
            let v = y.3 in
            x.puts (down p a b) (held p (w.passed p o u g).5) y.0 y.1 y.2 (omega arith)

        after_inside : (r : Option Put) → Puts t l inner path' path'' out out'' r → PathGiven path'' depth s.list.tree
        after_inside r x = given_less path'' depth s.list.tree (rw deep at x.given)

        pub puts_inside : Puts t l inner path' path'' out out'' None → Puts t l s path₀ path'' out₀ out'' None
        puts_inside x =
            puts_never t l s path₀ path'' out₀ out'' (after_inside None x)
            (λ p o u g. let y = (inside_puts None x p o u g).0.answer in let z : ◌≡◌ {A = ℕ} 0 1 = cc in omega arith)

        pub put_past : {k m : ℕ} → Puts t l inner path' path'' out out'' (past k m) → PutAt t l s path₀ path'' out₀ out'' below k m
        put_past {k} {m} x =
            record {
              in_order = let y = (inside_behind i e x refl).0 in let z = w.in_order in omega arith;
              given = after_inside (past k m) x;
              sized = lo ∙ w.sized;
              fits = let y = x.ends.2 in let z = w.sized in omega arith;
              early = x.ends.3;
              passed = go;
            }
          where
            go : (p : List Element) → Holds path₀ depth p → right (whole p) ≡ true → s.to + record_size * length (listed (whole p)) ≤ length out₀
                → (fs : List Listed) × FilesPassed t (whole p) below p k fs × (m ≡ s.to + record_size * length fs)
                × (out'' ≡ pasted out₀ s.to (records_of q fs)) × (length (records_of q fs) ≡ record_size * length fs) × Holds path'' depth p
            go p o u g =
                let x' = w.passed p o u g in
                let y = inside_right p o u g in
                let z = inside_puts (past k m) x p o u g in
                let v = same_past k y.1 m (to + record_size * length y.0) z.0.answer in
                let inn : files_below below t (b + 1) (down p a b) ≡ files y.0 k = y.2 ∙ ap (files y.0) (sym v.0) in
                let n = x'.2 in
                let fit = y.3 in
                let rest = v.1 in
                let more = more_records q out₀ out out'' s.to x'.0 y.0 x'.3 x'.4 z.0.size (z.0.records ∙ ap (λ (j : ℕ). pasted out j (records_of q y.0)) n) (omega arith) in (
                  x'.0 ++ y.0,
                  passed_directory t (whole p) below p i x'.0 x'.1 h a b e y.0 k inn,
                  omega (arith, length-append x'.0 y.0),
                  more.0,
                  more.1,
                  holds_up path'' depth p a b (holds_length path depth p w.given.sized x'.5 (omega arith)) (rw deep at z.1),
                )

-- ---- the whole tree

pub tree_written : (t l : List ℕ) (s : Spot) (path₀ path out₀ out : List ℕ) (r : Option Put) → s.at ≡ 1 → s.levels ≡ max_elements → s.to ≡ 0 → right (files_in t) ≡ true → record_size * length (listed (files_in t)) ≤ length out₀
    → Puts t l s path₀ path out₀ out r → out ≡ pasted out₀ 0 (records_of (parts_with t l s.list) (listed (files_in t)))
unfolding listed flat
tree_written t l s path₀ path out₀ out r ea el et e h x =
    let same : files_in t ≡ files_below s.levels t s.at [] = tree_below t (tree_some t e) ∙ rw (ea, el) refl in
    let y = right_is (files_in t) e in
    let k : listed (files_in t) ≡ y.0 = ap listed y.2 in
    let d : max_elements - s.levels ≡ 0 = omega arith in
    let z = x.puts [] (rw d refl) y.0 y.1 (sym same ∙ y.2) (omega (arith, ap length k)) in
    z.0.records ∙ rw (et, k) refl
