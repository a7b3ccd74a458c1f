-- Parts put behind each other are the whole put at once.
-- Assumes nothing.
use Rattle.std.specs.Prelude.{◌≡◌, refl, List, [], ◌∷◌, ◌++◌, ℕ, ◌+◌, ◌*◌, ◌/◌, ◌%◌, ◌≤◌, ◌<◌, length, take, drop, set}
use Rattle.std.proofs.Common.{sym, ap, ◌∙◌, append_assoc, append-nil, arith, add-one, length-append}
use Rattle.std.proofs.lemmas.List.{set_split}
use Rattle.octets.specs.Octets.{pasted}
use Rattle.octets.specs.OctetsLaws.{pasted_append, pasted_none}
use Rattle.bencode.specs.Grammar.{digit_zero, colon, decimal, encode_string}
use Rattle.bencode.specs.SoundLaws.{decimal_digit, decimal_longer}
use Rattle.writer_output.specs.Put.{Put}

-- of the bytes `whole`, put from `at` on, `rest` is still to come, at `now`
pub record Going (s : List ℕ) (at : ℕ) (whole rest t : List ℕ) (now : ℕ) : Type 0 where
  pub done : List ℕ
  pub so_far : Put s at done t now
  pub splits : done ++ rest ≡ whole
  pub kept : length t ≡ length s

-- nothing is put
pub put_none : (s : List ℕ) (at : ℕ) → Put s at [] s at
put_none s at = record { behind = omega arith; there = λ h. sym (pasted_none s at) }

pub going_start : (s : List ℕ) (at : ℕ) (whole : List ℕ) → Going s at whole whole s at
going_start s at whole = record { done = []; so_far = put_none s at; splits = refl; kept = refl }

-- b behind a
pub put_append : (s t u : List ℕ) (at m r : ℕ) (a b : List ℕ) → Put s at a t m → Put t m b u r → length t ≡ length s → Put s at (a ++ b) u r
put_append s t u at m r a b p q k =
    record {
      behind = let x = p.behind in let y = q.behind in omega (arith, length-append a b);
      there = λ h. let y = q.behind in let x = p.behind in
          q.there (omega arith)
          ∙ rw (p.there (omega arith), x) (pasted_append s at a b (omega arith));
    }

module _ (s : List ℕ) (at : ℕ) (whole x rest t u : List ℕ) (now r : ℕ) (g : Going s at whole (x ++ rest) t now) (p : Put t now x u r)
    (k : length u ≡ length t) where
  pub going_more : Going s at whole rest u r
  going_more =
      record {
        done = g.done ++ x;
        so_far = put_append s t u at now r g.done x g.so_far p g.kept;
        splits = append_assoc g.done x rest ∙ g.splits;
        kept = k ∙ g.kept;
      }

-- the last part
pub going_last : (s : List ℕ) (at : ℕ) (whole x t u : List ℕ) (now r : ℕ) → Going s at whole x t now → Put t now x u r → Put s at whole u r
going_last s at whole x t u now r g p = rw (sym g.splits) (put_append s t u at now r g.done x g.so_far p g.kept)

-- nothing is left
pub going_end : (s : List ℕ) (at : ℕ) (whole t : List ℕ) (now : ℕ) → Going s at whole [] t now → Put s at whole t now
going_end s at whole t now g = rw (sym g.splits, append-nil) g.so_far

-- what is left ends where the whole ends
pub going_place : (s : List ℕ) (at : ℕ) (whole rest t : List ℕ) (now : ℕ) → Going s at whole rest t now
    → now + length rest ≡ at + length whole
going_place s at whole rest t now g =
    let e = g.so_far.behind in omega (arith, ap (λ (l : List ℕ). length l) g.splits, length-append g.done rest)

-- the next part ends before the whole does
pub going_room : (s : List ℕ) (at : ℕ) (whole x rest t : List ℕ) (now n : ℕ) → Going s at whole (x ++ rest) t now → at + length whole < n
    → now + length x < n
going_room s at whole x rest t now n g h = let e = going_place s at whole (x ++ rest) t now g in omega (arith, length-append x rest)

-- ---- one byte, or no room

pub put_set : (s : List ℕ) (at b : ℕ) → at < length s → Put s at (b ∷ []) (set s at b) (at + 1)
unfolding pasted
put_set s at b h =
    record {
      behind = refl;
      there = λ _. set_split s at b h ∙ rw (sym (add-one at)) (sym (append_assoc (take at s) (b ∷ []) (drop (at + 1) s)));
    }

-- with no room nothing has to stand there
pub put_outside : (s : List ℕ) (at : ℕ) (b : List ℕ) → length s < at + length b → Put s at b s (at + length b)
put_outside s at b h = record { behind = refl; there = λ g. absurd (omega arith) }

-- ---- a number

pub decimal_one : (n : ℕ) → n < 10 → decimal n ≡ (digit_zero + n % 10) ∷ []
decimal_one n h = let e : n % 10 ≡ n = omega arith in decimal_digit n h ∙ rw e refl

pub decimal_more : (n : ℕ) → 10 ≤ n → decimal n ≡ decimal (n / 10) ++ (digit_zero + n % 10) ∷ []
decimal_more n h =
    let e : n / 10 * 10 + n % 10 ≡ n = omega arith in
    ap (λ (m : ℕ). decimal m) (sym e) ∙ decimal_longer (n / 10) (n % 10) (omega arith) (omega arith)

pub put_digit : (s t : List ℕ) (at n r : ℕ) → n < 10 → Put s at ((digit_zero + n % 10) ∷ []) t r → Put s at (decimal n) t r
put_digit s t at n r h p = rw (decimal_one n h) p

pub digits_room : (at n m : ℕ) → 10 ≤ n → at + length (decimal n) < m
    → (at + length (decimal (n / 10)) < m) × (at + length (decimal (n / 10)) + 1 < m)
digits_room at n m h l =
    let e = ap (λ (ds : List ℕ). length ds) (decimal_more n h) in
    let a = length-append (decimal (n / 10)) ((digit_zero + n % 10) ∷ []) in
    (omega arith, omega arith)

pub put_digits : (s t u : List ℕ) (at n m r : ℕ) → 10 ≤ n → Put s at (decimal (n / 10)) t m → Put t m ((digit_zero + n % 10) ∷ []) u r
    → length t ≡ length s → Put s at (decimal n) u r
put_digits s t u at n m r h p q k = rw (decimal_more n h) (put_append s t u at m r (decimal (n / 10)) ((digit_zero + n % 10) ∷ []) p q k)

-- ---- a string

pub string_length : (b : List ℕ) → length (encode_string b) ≡ length (decimal (length b)) + (1 + length b)
string_length b = length-append (decimal (length b)) (colon ∷ b) ∙ omega arith

-- a and b and c behind each other
pub put_three : (s t u v : List ℕ) (at m q r : ℕ) (a b c : List ℕ) → Put s at a t m → Put t m b u q → Put u q c v r → length t ≡ length s
    → length u ≡ length t → Put s at (a ++ (b ++ c)) v r
put_three s t u v at m q r a b c p x y k l = put_append s t v at m r a (b ++ c) p (put_append t u v m q r b c x y l) k
