-- 02, request 5: the rule for a path element is the relation; a path of such elements, handed to the system and followed from a folder, goes
-- one step down for each element, and so never leaves the folder.
-- Assumes nothing.
use Rattle.std.specs.Prelude.{◌≡◌, refl, Bool, true, false, ◌&&◌, not, ◌↔◌, List, [], ◌∷◌, ◌++◌, ℕ, zero, suc, take, eqb}
use Rattle.std.proofs.Math.Path.{sym}
use Rattle.std.proofs.Common.{ap, ◌∙◌, inl, inr, append_assoc, append-nil, ne_eqb}
use Rattle.std.proofs.lemmas.Bool.{false≢true, eqb-false, not-true}
use Rattle.std.proofs.Math.Bool.{and-eq-true_iff}
use Rattle.octets.specs.Octets.{same}
use Rattle.octets.specs.OctetsLaws.{same_false, same_ne}
use Rattle.meaning.specs.Counting.{Member}
use Rattle.meaning.specs.Torrent.{without, dot, dots, slash, element_right}
use Rattle.meaning.specs.Paths.{StaysInside, AllStay, written, to_zero, Location, step, walk, split, follow, InFolder}

-- ---- the rule

pub without_yes : (b : ℕ) (s : List ℕ) → without b s ≡ true → Member b s → ⊥
unfolding without Member
without_yes b [] h m = m
without_yes b (c ∷ cs) h (inl e) = let w = (and-eq-true_iff (not (eqb c b)) (without b cs)).0 h in eqb-false c b (not-true (eqb c b) w.0) (sym e)
without_yes b (c ∷ cs) h (inr m) = without_yes b cs ((and-eq-true_iff (not (eqb c b)) (without b cs)).0 h).1 m

pub without_no : (b : ℕ) (s : List ℕ) → (Member b s → ⊥) → without b s ≡ true
unfolding without Member
without_no b [] h = refl
without_no b (c ∷ cs) h = rw (ne_eqb c b (λ e. h (inl (sym e))), without_no b cs (λ m. h (inr m))) refl

four : (a b c d : Bool) → a && b && c && d ≡ true → (a ≡ true) × (b ≡ true) × (c ≡ true) × (d ≡ true)
four true true true d e = (refl, refl, refl, e)
four false b c d e = absurd (false≢true e)
four true false c d e = absurd (false≢true e)
four true true false d e = absurd (false≢true e)

pub element_exactly : (e : List ℕ) → (element_right e ≡ true) ↔ StaysInside e
unfolding element_right
element_exactly [] = ((λ h. absurd (false≢true h)), λ w. absurd (w.not_empty refl))
element_exactly (c ∷ cs) = (from, to)
  where
    some : (d : ℕ) (ds : List ℕ) → ◌≡◌ {A = List ℕ} (d ∷ ds) [] → ⊥
    some d ds z = false≢true (ap no_byte z)
      where
        no_byte : List ℕ → Bool
        no_byte [] = true
        no_byte (x ∷ xs) = false

    from : not (same (c ∷ cs) dot) && not (same (c ∷ cs) dots) && without slash (c ∷ cs) && without 0 (c ∷ cs) ≡ true → StaysInside (c ∷ cs)
    from h =
        let w = four (not (same (c ∷ cs) dot)) (not (same (c ∷ cs) dots)) (without slash (c ∷ cs)) (without 0 (c ∷ cs)) h in
        record {
          not_empty = some c cs;
          not_dot = same_false (c ∷ cs) dot (not-true (same (c ∷ cs) dot) w.0);
          not_dots = same_false (c ∷ cs) dots (not-true (same (c ∷ cs) dots) w.1);
          no_slash = without_yes slash (c ∷ cs) w.2;
          no_zero = without_yes 0 (c ∷ cs) w.3;
        }

    to : StaysInside (c ∷ cs) → not (same (c ∷ cs) dot) && not (same (c ∷ cs) dots) && without slash (c ∷ cs) && without 0 (c ∷ cs) ≡ true
    to w =
        rw
        (same_ne (c ∷ cs) dot w.not_dot, same_ne (c ∷ cs) dots w.not_dots, without_no slash (c ∷ cs) w.no_slash, without_no 0 (c ∷ cs) w.no_zero)
        refl

-- ---- a path keeps its bytes and its elements

-- bytes without zero come before its end
to_zero_behind : (a b : List ℕ) → (Member 0 a → ⊥) → to_zero (a ++ b) ≡ a ++ to_zero b
unfolding to_zero Member
to_zero_behind [] b h = refl
to_zero_behind (c ∷ cs) b h = rw (ne_eqb c 0 (λ e. h (inl (sym e)))) (ap (λ (l : List ℕ). c ∷ l) (to_zero_behind cs b (λ m. h (inr m))))

-- so nothing of the path is cut off
pub whole_path : (es : List (List ℕ)) → AllStay es → to_zero (written es) ≡ written es
unfolding written to_zero AllStay
whole_path [] a = refl
whole_path (e ∷ []) a = ap to_zero (sym (append-nil e)) ∙ to_zero_behind e [] a.0.no_zero ∙ append-nil e
whole_path (e ∷ f ∷ es) a = to_zero_behind e (slash ∷ written (f ∷ es)) a.0.no_zero ∙ ap (λ (l : List ℕ). e ++ slash ∷ l) (whole_path (f ∷ es) a.1)

-- bytes without `/` are one name
split_behind : (e w : List ℕ) → (Member slash e → ⊥) → split (e ++ slash ∷ w) ≡ e ∷ split w
unfolding split Member
split_behind [] w h = refl
split_behind (c ∷ cs) w h = rw (ne_eqb c slash (λ e. h (inl (sym e))), split_behind cs w (λ m. h (inr m))) refl

split_last : (e : List ℕ) → (Member slash e → ⊥) → split e ≡ e ∷ []
unfolding split Member
split_last [] h = refl
split_last (c ∷ cs) h = rw (ne_eqb c slash (λ e. h (inl (sym e))), split_last cs (λ m. h (inr m))) refl

-- so the names are the elements
pub names_are : (e : List ℕ) (es : List (List ℕ)) → AllStay (e ∷ es) → split (written (e ∷ es)) ≡ e ∷ es
unfolding written AllStay
names_are e [] a = split_last e a.0.no_slash
names_are e (f ∷ es) a = split_behind e (written (f ∷ es)) a.0.no_slash ∙ ap (λ (l : List (List ℕ)). e ∷ l) (names_are f es a.1)

-- ---- each element is one step down

step_down : (here : Location) (e : List ℕ) → StaysInside e → step here e ≡ here ++ (e ∷ [])
unfolding step
step_down here e w = rw (same_ne e [] w.not_empty, same_ne e dot w.not_dot, same_ne e dots w.not_dots) refl

pub walk_down : (here : Location) (es : List (List ℕ)) → AllStay es → walk here es ≡ here ++ es
unfolding walk AllStay
walk_down here [] a = sym (append-nil here)
walk_down here (e ∷ es) a = ap (λ (p : Location). walk p es) (step_down here e a.0) ∙ walk_down (here ++ (e ∷ [])) es a.1 ∙ append_assoc here (e ∷ []) es

-- the place after any number of its elements
take_stay : (k : ℕ) (es : List (List ℕ)) → AllStay es → AllStay (take k es)
unfolding AllStay
take_stay zero es a = tt
take_stay (suc k) [] a = tt
take_stay (suc k) (e ∷ es) a = (a.0, take_stay k es a.1)

pub on_the_way : (here : Location) (es : List (List ℕ)) → AllStay es → (k : ℕ) → walk here (take k es) ≡ here ++ take k es
on_the_way here es a k = walk_down here (take k es) (take_stay k es a)

-- a text that does not begin with `/` leads from the folder
follow_from : (here : Location) (c : ℕ) (cs : List ℕ) → (c ≡ slash → ⊥) → follow here (c ∷ cs) ≡ walk here (split (c ∷ cs))
unfolding follow
follow_from here c cs h = rw (ne_eqb c slash h) refl

-- a path does not
first_byte : (e : List ℕ) (es : List (List ℕ)) → StaysInside e → (c : ℕ) × ((cs : List ℕ) × (written (e ∷ es) ≡ c ∷ cs) × (c ≡ slash → ⊥))
unfolding written Member
first_byte [] es w = absurd (w.not_empty refl)
first_byte (c ∷ cs) [] w = (c, (cs, refl, λ e. w.no_slash (inl (sym e))))
first_byte (c ∷ cs) (f ∷ es) w = (c, (cs ++ slash ∷ written (f ∷ es), refl, λ e. w.no_slash (inl (sym e))))

pub followed : (folder : Location) (es : List (List ℕ)) → AllStay es → follow folder (to_zero (written es)) ≡ folder ++ es
followed folder [] a = unfold follow written to_zero in sym (append-nil folder)
followed folder (e ∷ es) a =
    let b = first_byte e es (first_of e es a) in
    ap (follow folder) (whole_path (e ∷ es) a ∙ b.1.1)
    ∙ follow_from folder b.0 b.1.0 b.1.2
    ∙ ap (λ (t : List ℕ). walk folder (split t)) (sym b.1.1)
    ∙ ap (walk folder) (names_are e es a)
    ∙ walk_down folder (e ∷ es) a
  where
    first_of : (e : List ℕ) (es : List (List ℕ)) → AllStay (e ∷ es) → StaysInside e
    first_of e es a = unfold AllStay in a.0

pub in_folder : (folder : Location) (e : List ℕ) (es : List (List ℕ)) → AllStay (e ∷ es) → InFolder folder (follow folder (to_zero (written (e ∷ es))))
in_folder folder e es a = (e, (es, followed folder (e ∷ es) a))
