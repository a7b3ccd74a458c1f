-- A path of `files` and one of the tree, compared element by element.
-- Assumes nothing.
use Rattle.bencode.specs.EndsLaws.{same_part}
use Rattle.bencode.specs.Scalar.{part}
use Rattle.std.proofs.Math.Path.{◌≡◌, sym, ap}
use Rattle.std.specs.Prelude.{refl, Bool, true, ◌&&◌, ℕ, zero, suc, ◌+◌, ◌-◌, ◌*◌, ◌≤◌, ◌<◌, length, get_or, List, [], ◌∷◌, ◌++◌, None}
use Rattle.std.proofs.Common.{ap₂, ◌∙◌, arith}
use Rattle.std.proofs.Math.Bool.{false, and-eq-true_iff}
use Rattle.std.proofs.lemmas.Bool.{false≢true}
use Rattle.std.proofs.Math.ListN.{drop, drop_of_length-le}
use Rattle.octets.specs.Octets.{cut, same}
use Rattle.bencode.specs.Grammar.{letter_l, integer, string, list, dictionary, Items, no_items, item, encode, encode_items, encode_string}
use Rattle.bencode.specs.Scalar.{read_string, read_number, read_digits}
use Rattle.bencode.specs.CompleteLaws.{content_start}
use Rattle.bencode.specs.PartsLaws.{string_is, content_is, after_part}
use Rattle.filetree.specs.Token.{ends_here}
use Rattle.filetree.specs.Tree.{Element}
use Rattle.filetree.specs.Path.{Holds}
use Rattle.filetree.specs.PathLaws.{element_number, holds_element}
use Rattle.filetree.specs.Reading.{element, elements}
use Rattle.halves.specs.V1Half.{is_full, names_full, names_of, same_path}
use Rattle.hybrid.specs.Entry.{StandsAt}
use Rattle.hybrid.specs.EntryLaws.{ItemsAt, item_front, not_end}
use Rattle.hybrid.specs.Ahead.{AllInside}

-- ---- the name that stands next

-- among names, none of them empty: the list's end, or one
pub data Look (v : List ℕ) (i : ℕ) (us : Items) (rest : List ℕ) : Type 0 where
  ended : us ≡ no_items → read_string i (drop i v) ≡ None → ends_here (drop i v) ≡ true → Look v i us rest
  one : (c : List ℕ) (ws : Items) → us ≡ item (string c) ws → read_string i (drop i v) ≡ part (content_start i c) (i + length (encode_string c)) → ends_here (drop i v) ≡ false
      → cut v (content_start i c) (i + length (encode_string c) - content_start i c) ≡ c → ItemsAt v (i + length (encode_string c)) ws rest → names_full ws ≡ true → Look v i us rest

-- a string's encoding
pub string_bytes : (c : List ℕ) → encode (string c) ≡ encode_string c
unfolding encode
string_bytes c = refl

-- at the list's end no string stands
no_string : (v : List ℕ) (i : ℕ) (rest : List ℕ) → ItemsAt v i no_items rest → read_string i (drop i v) ≡ None
unfolding encode read_number read_digits
no_string v i rest e = rw e refl

end_stands : (v : List ℕ) (i : ℕ) (rest : List ℕ) → ItemsAt v i no_items rest → ends_here (drop i v) ≡ true
unfolding encode ends_here
end_stands v i rest e = rw e refl

pub look : (v : List ℕ) (i : ℕ) (us : Items) (rest : List ℕ) → ItemsAt v i us rest → names_full us ≡ true → Look v i us rest
unfolding names_full
look v i no_items rest e f = ended refl (no_string v i rest e) (end_stands v i rest e)
look v i (item (string c) ws) rest e f =
    let d : drop i v ≡ encode (string c) ++ (encode_items ws ++ rest) = e ∙ item_front (string c) ws rest in
    let d2 : drop i v ≡ encode_string c ++ (encode_items ws ++ rest) = d ∙ ap (λ (l : List ℕ). l ++ (encode_items ws ++ rest)) (string_bytes c) in
    one c ws refl (ap (read_string i) d ∙ string_is (string c) i (encode_items ws ++ rest)) (ap ends_here d ∙ not_end (string c) (encode_items ws ++ rest))
    (content_is v c (encode_items ws ++ rest) i d2) (after_part v i (encode_string c) (encode_items ws ++ rest) d2) ((and-eq-true_iff (is_full c) (names_full ws)).0 f).1
look v i (item (integer minus n) ws) rest e f = absurd (false≢true f)
look v i (item (list us) ws) rest e f = absurd (false≢true f)
look v i (item (dictionary es) ws) rest e f = absurd (false≢true f)

-- ---- the element that stands next

pub element_next : (p : List Element) (k : ℕ) → k < length p → drop k p ≡ element_number p k ∷ drop (suc k) p
unfolding element_number
element_next [] k h = absurd (omega arith)
element_next (e ∷ es) zero h = refl
element_next (e ∷ es) (suc k) h = element_next es k (omega arith)

pub element_inside : (n : ℕ) (p : List Element) (k : ℕ) → AllInside n p → k < length p → ((element_number p k).start ≤ (element_number p k).end) × ((element_number p k).end ≤ n)
unfolding AllInside element_number
element_inside n [] k a h = absurd (omega arith)
element_inside n (e ∷ es) zero a h = (a.0, a.1)
element_inside n (e ∷ es) (suc k) a h = element_inside n es k a.2 (omega arith)

-- ---- how far they were compared

-- what is asked of the path p by its array
pub record Kept (n : ℕ) (path : List ℕ) (depth : ℕ) (p : List Element) : Type 0 where
  pub holds : Holds path depth p
  pub deep : depth ≡ length p
  pub inside : AllInside n p

-- k elements and the names up to i are the same; the rest decides
pub record Comparing (t path : List ℕ) (depth : ℕ) (v : List ℕ) (at i k : ℕ) : Type 0 where
  pub few : k ≤ depth
  pub same_so_far : (ws : Items) → StandsAt v at (list ws) → names_full ws ≡ true → (p : List Element) → Kept (length t) path depth p
      → (us : Items) × (rest : List ℕ) × ItemsAt v i us rest × (names_full us ≡ true) × (same_path (names_of ws) (elements t p) ≡ same_path (names_of us) (elements t (drop k p)))

list_bytes : (ws : Items) (rest : List ℕ) → encode (list ws) ++ rest ≡ (letter_l ∷ []) ++ (encode_items ws ++ rest)
unfolding encode
list_bytes ws rest = refl

pub compare_start : (t path : List ℕ) (depth : ℕ) (v : List ℕ) (at : ℕ) → Comparing t path depth v at (at + 1) 0
compare_start t path depth v at =
    record { few = omega arith; same_so_far = λ ws s f p w. (ws, s.behind, after_part v at (letter_l ∷ []) (encode_items ws ++ s.behind) (s.bytes ∙ list_bytes ws s.behind), f, refl) }

module _ (t path : List ℕ) (depth : ℕ) (v : List ℕ) (at i k : ℕ) (w : Comparing t path depth v at i k) where
  abbrev Says : Bool → Type 0
  Says r = (ws : Items) → StandsAt v at (list ws) → names_full ws ≡ true → (p : List Element) → Kept (length t) path depth p → r ≡ same_path (names_of ws) (elements t p)

  -- all elements were met: the names have to end
  pub compare_end : depth ≤ k → (r : Bool) → r ≡ ends_here (drop i v) → Says r
  unfolding same_path names_of
  compare_end h r er ws s f p kp =
      let m = w.same_so_far ws s f p kp in
      let none : drop k p ≡ [] = drop_of_length-le p {i = k} (omega (arith, kp.deep)) in
      by_look m.0 m.1 (look v i m.0 m.1 m.2 m.3) (m.4 ∙ ap (λ (q : List Element). same_path (names_of m.0) (elements t q)) none)
    where
      by_look : (us : Items) (rest : List ℕ) → Look v i us rest → same_path (names_of ws) (elements t p) ≡ same_path (names_of us) [] → r ≡ same_path (names_of ws) (elements t p)
      by_look us rest (ended eu es ee) q = er ∙ ee ∙ sym (q ∙ ap (λ (x : Items). same_path (names_of x) []) eu)
      by_look us rest (one c xs eu es ee ec ei ef) q = er ∙ ee ∙ sym (q ∙ ap (λ (x : Items). same_path (names_of x) []) eu)

  module _ (h : k < depth) where
    -- an element stands within the tree
    pub in_tree : (p : List Element) → Kept (length t) path depth p → (get_or path (2 * k) 0 ≤ get_or path (2 * k + 1) 0) × (get_or path (2 * k + 1) 0 ≤ length t)
    in_tree p kp =
        let e = holds_element path depth p kp.holds k h in
        let b = element_inside (length t) p k kp.inside (omega (arith, kp.deep)) in
        (rw (e.0, e.1) b.0, rw e.1 b.1)

    pub compare_wrong : (r : Bool) → get_or path (2 * k + 1) 0 < get_or path (2 * k) 0 → Says r
    compare_wrong r l ws s f p kp = let b = (in_tree p kp).0 in absurd (omega arith)

    pub compare_outside : (r : Bool) → length t < get_or path (2 * k + 1) 0 → Says r
    compare_outside r l ws s f p kp = let b = (in_tree p kp).1 in absurd (omega arith)

    -- the names end before the elements
    pub compare_short : read_string i (drop i v) ≡ None → Says false
    unfolding same_path names_of
    compare_short e ws s f p kp =
        let m = w.same_so_far ws s f p kp in
        by_look m.0 m.1 (look v i m.0 m.1 m.2 m.3) (m.4 ∙ ap (λ (q : List Element). same_path (names_of m.0) (elements t q)) (element_next p k (omega (arith, kp.deep))))
      where
        by_look : (us : Items) (rest : List ℕ) → Look v i us rest
            → same_path (names_of ws) (elements t p) ≡ same_path (names_of us) (elements t (element_number p k ∷ drop (suc k) p)) → false ≡ same_path (names_of ws) (elements t p)
        by_look us rest (ended eu es ee) q = sym (q ∙ ap (λ (x : Items). same_path (names_of x) (elements t (element_number p k ∷ drop (suc k) p))) eu)
        by_look us rest (one c xs eu es ee ec ei ef) q = let z = sym e ∙ es in let y : ◌≡◌ {A = ℕ} 0 1 = cc in absurd (omega arith)

    module _ (a b : ℕ) (e : read_string i (drop i v) ≡ part a b) (b0 : Bool)
        (eb : b0 ≡ same (cut v a (b - a)) (cut t (get_or path (2 * k) 0) (get_or path (2 * k + 1) 0 - get_or path (2 * k) 0))) where
      -- one name, and one element
      both : (ws : Items) (s : StandsAt v at (list ws)) (f : names_full ws ≡ true) (p : List Element) (kp : Kept (length t) path depth p)
          → (us : Items) × (rest : List ℕ) × ItemsAt v b us rest × (names_full us ≡ true) × (same_path (names_of ws) (elements t p) ≡ b0 && same_path (names_of us) (elements t (drop (suc k) p)))
      unfolding same_path names_of
      both ws s f p kp =
          let m = w.same_so_far ws s f p kp in
          by_look m.0 m.1 (look v i m.0 m.1 m.2 m.3) (m.4 ∙ ap (λ (q : List Element). same_path (names_of m.0) (elements t q)) (element_next p k (omega (arith, kp.deep))))
        where
          el : (get_or path (2 * k) 0 ≡ (element_number p k).start) × (get_or path (2 * k + 1) 0 ≡ (element_number p k).end)
          el = holds_element path depth p kp.holds k h

          by_look : (us : Items) (rest : List ℕ) → Look v i us rest
              → same_path (names_of ws) (elements t p) ≡ same_path (names_of us) (elements t (element_number p k ∷ drop (suc k) p))
              → (xs : Items) × (rest : List ℕ) × ItemsAt v b xs rest × (names_full xs ≡ true) × (same_path (names_of ws) (elements t p) ≡ b0 && same_path (names_of xs) (elements t (drop (suc k) p)))
          by_look us rest (ended eu es ee) q = let z = sym e ∙ es in let y : ◌≡◌ {A = ℕ} 0 1 = cc in absurd (omega arith)
          by_look us rest (one c xs eu es ee ec ei ef) q =
              let z = sym e ∙ es in
              let ends = same_part _ _ _ _ z in
              let ea = ends.0 in
              let en = ends.1 in
              let name : cut v a (b - a) ≡ c = ap₂ (λ (x y : ℕ). cut v x (y - x)) ea en ∙ ec in
              let test : b0 ≡ same c (element t (element_number p k)) = eb ∙ ap₂ (λ (x : List ℕ) (y : List ℕ). same x y) name (ap₂ (λ (x y : ℕ). cut t x (y - x)) el.0 el.1) in
              (xs, rest, rw en ei, ef, q ∙ ap (λ (x : Items). same_path (names_of x) (elements t (element_number p k ∷ drop (suc k) p))) eu ∙ ap (λ (u : Bool). u && same_path (names_of xs) (elements t (drop (suc k) p))) (sym test))

      pub compare_other : b0 ≡ false → Says false
      compare_other z ws s f p kp = let m = both ws s f p kp in sym (m.4 ∙ ap (λ (u : Bool). u && same_path (names_of m.0) (elements t (drop (suc k) p))) z)

      pub compare_more : b0 ≡ true → Comparing t path depth v at b (k + 1)
      compare_more z =
          record {
            few = omega arith;
            same_so_far = λ ws s f p kp.
                let m = both ws s f p kp in
                let o : suc k ≡ k + 1 = omega arith in
                (m.0, m.1, m.2, m.3, m.4 ∙ ap (λ (u : Bool). u && same_path (names_of m.0) (elements t (drop (suc k) p))) z ∙ ap (λ (j : ℕ). same_path (names_of m.0) (elements t (drop j p))) o);
          }
