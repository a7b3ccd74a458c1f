-- The session, byte by byte, prints the lines of the records.
-- Assumes nothing.
use Rattle.std.specs.Prelude.{◌≡◌, Bool, true, false, cond, ◌&&◌, length, take, drop, leb, eqb, List, [], ◌∷◌, ◌++◌, ℕ, zero, suc, ◌+◌, ◌-◌, ◌≤◌, ◌<◌, Some}
use Rattle.std.proofs.Math.Path.{refl, ap}
use Rattle.std.proofs.Common.{sym, ◌∙◌, length-drop, ne_eqb, le-leb, leb-true, leb-false, append_assoc, arith}
use Rattle.std.proofs.Math.Decide.{ℕ_discrete}
use Rattle.numbers.specs.Numbers.{refused, done, no_message, facts_out_of_range}
use Rattle.numbers.specs.declared.Answer.{Answer}
use Rattle.session.specs.declared.Phase.{Phase}
use Rattle.session.specs.declared.Phase.TheVariants.{Open, Opening, Inside, Body, Stopped}
use Rattle.session.specs.Session as S
use Rattle.session.specs.Session.{Session, Outcome, goes, says, broken, step, line_of, ending, printed, begun, max_message, length_in, piece_in, root_in, opens, body_byte, opening_byte}
use Rattle.store.specs.Store as St
use Rattle.header.specs.Header.{hashes_id}
use Rattle.session.specs.Lines.{Kind, opening, header, hash, finish, unknown, kind_of, body_size, Turn, fresh, ready, inside, stopped, Told, opened, told, at_end, lines_from, lines}

-- ---- the session between two records

abbrev pub session_of : Turn → Session
session_of (fresh s) = begun s
session_of (ready s) = record { phase = Open; got = []; store = s }
session_of (inside s m) = record { phase = Inside; got = m; store = s }
session_of (stopped s) = record { phase = Stopped; got = []; store = s }

-- what an outcome prints, with what follows
abbrev from : Outcome → List ℕ → List Answer
from o rest = line_of o.line ++ printed o.session rest

-- ---- after a stop nothing is printed

stopped_printed : (s rest : List ℕ) → printed (session_of (stopped s)) rest ≡ []
unfolding printed
stopped_printed s [] = refl
stopped_printed s (b ∷ rest) = stopped_printed s rest

-- ---- a kind byte, by its kind

outside_kind : Bool → List ℕ → Kind → Outcome
outside_kind o s opening = goes (Opening 43) [] s
outside_kind true s header = goes (Body 47) (hashes_id ∷ []) s
outside_kind false s header = broken s
outside_kind o s hash = broken s
outside_kind o s finish = broken s
outside_kind o s unknown = broken s

inside_kind : List ℕ → List ℕ → Kind → Outcome
inside_kind got s opening = broken s
inside_kind got s header = broken s
inside_kind got s hash = cond (leb (length got + 32) max_message) (goes (Body 31) got s) (broken s)
inside_kind got s finish = S.inside got s 4
inside_kind got s unknown = broken s

outside_by : (o : Bool) (s : List ℕ) (a b c d : Bool)
    → cond a (goes (Opening 43) [] s) (cond o (cond b (goes (Body 47) (hashes_id ∷ []) s) (broken s)) (broken s))
    ≡ outside_kind o s (cond a opening (cond b header (cond c hash (cond d finish unknown))))
unfolding outside_kind
outside_by o s true b c d = refl
outside_by true s false true c d = refl
outside_by false s false true c d = refl
outside_by true s false false true d = refl
outside_by false s false false true d = refl
outside_by true s false false false true = refl
outside_by false s false false false true = refl
outside_by true s false false false false = refl
outside_by false s false false false false = refl

outside_kind_lem : (o : Bool) (s : List ℕ) (k : ℕ) → S.outside o s k ≡ outside_kind o s (kind_of k)
unfolding S.outside kind_of
outside_kind_lem o s k = outside_by o s (eqb k 1) (eqb k 2) (eqb k 3) (eqb k 4)

inside_by : (got s : List ℕ) (c d : Bool)
    → cond c (cond (leb (length got + 32) max_message) (goes (Body 31) got s) (broken s)) (cond d (S.inside got s 4) (broken s))
    ≡ inside_kind got s (cond c hash (cond d finish unknown))
unfolding inside_kind
inside_by got s true d = refl
inside_by got s false true = refl
inside_by got s false false = refl

inside_kind_lem : (got s : List ℕ) (k : ℕ) → S.inside got s k ≡ inside_kind got s (kind_of k)
unfolding S.inside kind_of inside_kind
inside_kind_lem got s k =
    elim (ℕ_discrete k 1) [
      | yes e ↦ rw e refl
      | no n ↦ elim (ℕ_discrete k 2) [
        | yes e ↦ rw e refl
        | no m ↦ rw (ne_eqb k 1 n, ne_eqb k 2 m) (inside_by got s (eqb k 3) (eqb k 4))
      ]
    ]

-- ---- a body: its bytes are gathered one by one, whatever its last byte then leads to

module _ (stage : ℕ → Phase) (s : List ℕ) (last : List ℕ → Outcome)
    (more : (l : ℕ) (got : List ℕ) (b : ℕ) → step (stage (suc l)) got s b ≡ goes (stage l) (got ++ (b ∷ [])) s)
    (done : (got : List ℕ) (b : ℕ) → step (stage 0) got s b ≡ last (got ++ (b ∷ [])))
    (short : (l : ℕ) → ending (stage l) ≡ Some (refused no_message)) where
  body_whole : (l : ℕ) (got rest : List ℕ) → suc l ≤ length rest
      → printed (record { phase = stage l; got = got; store = s }) rest ≡ from (last (got ++ take (suc l) rest)) (drop (suc l) rest)
  unfolding printed
  body_whole l got [] h = let w : ⊥ = omega arith in absurd w
  body_whole zero got (b ∷ rest) h = rw (done got b) refl
  body_whole (suc l) got (b ∷ rest) h =
      rw (more l got b) (body_whole l (got ++ (b ∷ [])) rest (omega arith) ∙ ap (λ (g : List ℕ). from (last g) (drop (suc l) rest)) (append_assoc got (b ∷ []) (take (suc l) rest)))

  body_cut : (l : ℕ) (got rest : List ℕ) → length rest < suc l
      → printed (record { phase = stage l; got = got; store = s }) rest ≡ refused no_message ∷ []
  unfolding printed
  body_cut l got [] h = rw (short l) refl
  body_cut zero got (b ∷ rest) h = let w : ⊥ = omega arith in absurd w
  body_cut (suc l) got (b ∷ rest) h = rw (more l got b) (body_cut l (got ++ (b ∷ [])) rest (omega arith))

body_step : (s : List ℕ) (l : ℕ) (got : List ℕ) (b : ℕ) → step (Body (suc l)) got s b ≡ goes (Body l) (got ++ (b ∷ [])) s
unfolding body_byte
body_step s l got b = let e : suc l - 1 ≡ l = omega arith in rw (ne_eqb (suc l) 0 (λ z. omega arith), e) refl

body_done : (s got : List ℕ) (b : ℕ) → step (Body 0) got s b ≡ goes Inside (got ++ (b ∷ [])) s
unfolding body_byte
body_done s got b = refl

opening_step : (s : List ℕ) (l : ℕ) (got : List ℕ) (b : ℕ) → step (Opening (suc l)) got s b ≡ goes (Opening l) (got ++ (b ∷ [])) s
unfolding opening_byte
opening_step s l got b = let e : suc l - 1 ≡ l = omega arith in rw (ne_eqb (suc l) 0 (λ z. omega arith), e) refl

opening_done : (s got : List ℕ) (b : ℕ) → step (Opening 0) got s b ≡ S.opening (got ++ (b ∷ [])) s
unfolding opening_byte
opening_done s got b = refl

-- ---- each record

-- what is told of a record, with what follows
abbrev after : Told → List ℕ → List Answer
after t rest = t.lines ++ printed (session_of t.turn) rest

broken_after : (s r rest : List ℕ) → from (broken s) r ≡ refused no_message ∷ printed (session_of (stopped s)) rest
broken_after s r rest = rw (stopped_printed s r, stopped_printed s rest) refl

opened_by : (s : List ℕ) (x : Bool) (a : Answer) (s' rest : List ℕ)
    → from (cond x (says Open a s') (S.shut s)) rest
    ≡ after (cond x (record { lines = a ∷ []; turn = ready s' }) (record { lines = refused facts_out_of_range ∷ []; turn = stopped s })) rest
opened_by s true a s' rest = refl
opened_by s false a s' rest = refl

opened_after : (s o rest : List ℕ) → from (S.opening o s) rest ≡ after (opened s o) rest
unfolding S.opening opened
opened_after s o rest = opened_by s (opens o) (done 1) (St.opened s (length_in o) (piece_in o) (root_in o)) rest

-- a body that is there, or is cut
module _ (s got : List ℕ) (l : ℕ) (rest : List ℕ) where
  message_body : (u : Bool) → leb (suc l) (length rest) ≡ u
      → from (goes (Body l) got s) rest
      ≡ after (cond u (record { lines = []; turn = inside s (got ++ take (suc l) rest) }) (record { lines = refused no_message ∷ []; turn = stopped s })) (drop (suc l) rest)
  message_body true e =
      body_whole Body s (λ g. goes Inside g s) (body_step s) (body_done s) (λ n. refl) l got rest (leb-true (suc l) (length rest) e)
  message_body false e =
      body_cut Body s (λ g. goes Inside g s) (body_step s) (body_done s) (λ n. refl) l got rest (leb-false (suc l) (length rest) e)
      ∙ rw (stopped_printed s (drop (suc l) rest)) refl

  opening_body : (u : Bool) → leb (suc l) (length rest) ≡ u
      → from (goes (Opening l) got s) rest
      ≡ after (cond u (opened s (got ++ take (suc l) rest)) (record { lines = refused no_message ∷ []; turn = stopped s })) (drop (suc l) rest)
  opening_body true e =
      body_whole Opening s (λ g. S.opening g s) (opening_step s) (opening_done s) (λ n. refl) l got rest (leb-true (suc l) (length rest) e)
      ∙ opened_after s (got ++ take (suc l) rest) (drop (suc l) rest)
  opening_body false e =
      body_cut Opening s (λ g. S.opening g s) (opening_step s) (opening_done s) (λ n. refl) l got rest (leb-false (suc l) (length rest) e)
      ∙ rw (stopped_printed s (drop (suc l) rest)) refl

-- ---- a record at each turn

fresh_told : (s rest : List ℕ) (κ : Kind) → from (outside_kind false s κ) rest ≡ after (told (fresh s) κ rest) (drop (body_size κ) rest)
unfolding outside_kind told
fresh_told s rest opening = opening_body s [] 43 rest (leb 44 (length rest)) refl
fresh_told s rest header = broken_after s rest (drop 48 rest)
fresh_told s rest hash = broken_after s rest (drop 32 rest)
fresh_told s rest finish = broken_after s rest (drop 0 rest)
fresh_told s rest unknown = broken_after s rest (drop 0 rest)

ready_told : (s rest : List ℕ) (κ : Kind) → from (outside_kind true s κ) rest ≡ after (told (ready s) κ rest) (drop (body_size κ) rest)
unfolding outside_kind told
ready_told s rest opening = opening_body s [] 43 rest (leb 44 (length rest)) refl
ready_told s rest header = message_body s (hashes_id ∷ []) 47 rest (leb 48 (length rest)) refl
ready_told s rest hash = broken_after s rest (drop 32 rest)
ready_told s rest finish = broken_after s rest (drop 0 rest)
ready_told s rest unknown = broken_after s rest (drop 0 rest)

hash_told : (s m rest : List ℕ) (u : Bool)
    → from (cond u (goes (Body 31) m s) (broken s)) rest
    ≡ after (cond (u && leb 32 (length rest)) (record { lines = []; turn = inside s (m ++ take 32 rest) }) (record { lines = refused no_message ∷ []; turn = stopped s })) (drop 32 rest)
hash_told s m rest true = message_body s m 31 rest (leb 32 (length rest)) refl
hash_told s m rest false = broken_after s rest (drop 32 rest)

inside_told : (s m rest : List ℕ) (κ : Kind) → from (inside_kind m s κ) rest ≡ after (told (inside s m) κ rest) (drop (body_size κ) rest)
unfolding inside_kind told S.inside
inside_told s m rest opening = broken_after s rest (drop 44 rest)
inside_told s m rest header = broken_after s rest (drop 48 rest)
inside_told s m rest hash = hash_told s m rest (leb (length m + 32) max_message)
inside_told s m rest finish = rw (le-leb 0 (length rest) (omega arith)) refl
inside_told s m rest unknown = broken_after s rest (drop 0 rest)

pub told_printed : (t : Turn) (k : ℕ) (rest : List ℕ) → printed (session_of t) (k ∷ rest) ≡ after (told t (kind_of k) rest) (drop (body_size (kind_of k)) rest)
unfolding printed told
told_printed (fresh s) k rest = ap (λ (o : Outcome). from o rest) (outside_kind_lem false s k) ∙ fresh_told s rest (kind_of k)
told_printed (ready s) k rest = ap (λ (o : Outcome). from o rest) (outside_kind_lem true s k) ∙ ready_told s rest (kind_of k)
told_printed (inside s m) k rest = ap (λ (o : Outcome). from o rest) (inside_kind_lem m s k) ∙ inside_told s m rest (kind_of k)
told_printed (stopped s) k rest = stopped_printed s rest ∙ sym (stopped_printed s (drop (body_size (kind_of k)) rest))

-- ---- the whole input

end_printed : (t : Turn) → at_end t ≡ printed (session_of t) []
unfolding printed
end_printed (fresh s) = refl
end_printed (ready s) = refl
end_printed (inside s m) = refl
end_printed (stopped s) = refl

pub lines_printed : (n : ℕ) (t : Turn) (input : List ℕ) → length input ≤ n → lines_from n t input ≡ printed (session_of t) input
unfolding lines_from
lines_printed zero t [] h = end_printed t
lines_printed zero t (k ∷ rest) h = let w : ⊥ = omega arith in absurd w
lines_printed (suc n) t [] h = end_printed t
lines_printed (suc n) t (k ∷ rest) h =
    ap (λ (l : List Answer). (told t (kind_of k) rest).lines ++ l)
    (lines_printed n (told t (kind_of k) rest).turn (drop (body_size (kind_of k)) rest) (simp length-drop (omega arith)))
    ∙ sym (told_printed t k rest)

-- the bytes of an input, fed to a session that has just begun, print the input's lines
pub session_lines : (lent input : List ℕ) → lines lent input ≡ printed (begun lent) input
unfolding lines
session_lines lent input = lines_printed (length input) (fresh lent) input (omega arith)
