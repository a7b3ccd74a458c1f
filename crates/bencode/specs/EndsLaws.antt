-- Where what is read can lie: past the position that it was read from, and within the bytes. For callers that slice by what they were told.
-- It follows from what is read being the front of the bytes (SoundLaws).
-- Assumes nothing.
use Rattle.std.specs.Prelude.{◌≡◌, Bool, true, false, cond, List, [], ◌∷◌, ℕ, ◌+◌, ◌-◌, ◌≤◌, ◌<◌, length, drop, Option, unwrap_or, Ok}
use Rattle.std.proofs.Common.{ap, ◌∙◌, arith, length-drop, length-append, drop-drop}
use Rattle.bencode.specs.Grammar.{colon, encode_string, encode, decimal}
use Rattle.bencode.specs.Scalar.{is, part, read_number, read_string}
use Rattle.bencode.specs.Walk.{walk_value}
use Rattle.bencode.specs.CompleteLaws.{value_some, string_some}
use Rattle.bencode.specs.SoundLaws.{NumberIs, number_sound, StringIs, string_sound, sound}
use Rattle.bencode.specs.declared.part.Part.{Part}

pub cond_both {ℓ} : {A : Type ℓ} (P : A → Type 0) (b : Bool) (x y : A) → P x → P y → P (cond b x y)
cond_both P true x y p q = p
cond_both P false x y p q = q

-- bytes further on, from a position behind the first ones
pub drop_further : (s : List ℕ) (i k : ℕ) → i ≤ k → drop (k - i) (drop i s) ≡ drop k s
drop_further s i k h = let e : i + (k - i) ≡ k = omega arith in drop-drop (k - i) i s ∙ ap (λ (n : ℕ). drop n s) e

-- a number ends past its start, within the bytes
pub number_ends : (stop at : ℕ) (s : List ℕ) (n k : ℕ) → read_number stop at (drop at s) ≡ is n k → (at < k) × (k ≤ length s)
number_ends stop at s n k e =
    let p : NumberIs stop at [] (drop at s) (is n k) = rw e at (number_sound stop at (drop at s)) in
    let l = ap length p.2 ∙ length-append p.0 (stop ∷ p.1) in
    (omega (arith, p.4), omega (arith, p.4, l, length-drop at s))

-- a string ends past its start, within the bytes, and its content lies in it
pub string_ends : (at : ℕ) (s : List ℕ) (a b : ℕ) → read_string at (drop at s) ≡ part a b → (at < a) × (a ≤ b) × (b ≤ length s)
string_ends at s a b e =
    let p : StringIs at (drop at s) (part a b) = rw e at (string_sound at (drop at s)) in
    let l = ap length p.2 ∙ length-append (encode_string p.0) p.1 in
    let c = length-append (decimal (length p.0)) (colon ∷ p.0) in
    (omega (arith, p.3), omega (arith, p.3, p.4, c), omega (arith, p.4, l, length-drop at s, string_some p.0))

-- a value ends past its start, within the bytes
pub value_ends : (levels at : ℕ) (s : List ℕ) (k : ℕ) → walk_value levels at (drop at s) ≡ Ok k → (at < k) × (k ≤ length s)
value_ends levels at s k e =
    let p = sound levels at (drop at s) k e in
    let l = ap length p.bytes ∙ length-append (encode p.it) p.rest in
    (omega (arith, p.ends, value_some p.it), omega (arith, p.ends, l, length-drop at s, value_some p.it))

-- a part has one start and one end
pub same_part : (a b c d : ℕ) → part a b ≡ part c d → (a ≡ c) × (b ≡ d)
same_part a b c d e =
    let or_this : Part = record { start = a; end = b } in
    (ap (λ (o : Option Part). (unwrap_or o or_this).start) e, ap (λ (o : Option Part). (unwrap_or o or_this).end) e)
