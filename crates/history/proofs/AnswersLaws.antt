-- The answers case by case, as code and theorems meet them.
-- Assumes nothing.
use Rattle.std.specs.Prelude.{◌≡◌, Bool, true, false, ◌&&◌, [], ℕ, ◌*◌, ◌%◌, replicate, eqb, leb}
use Rattle.std.proofs.Math.Bool.{and-eq-true_iff}
use Rattle.std.proofs.Common.{eq-eqb, le-leb, leb-true, eqb-true}
use Rattle.numbers.specs.Numbers.{facts_out_of_range}
use Rattle.limits.specs.Limits.{longest_file}
use Rattle.running.specs.Bursts.{state_of}
use Rattle.running.specs.declared.Hashing.{Hashing}
use Rattle.tree.specs.Geometry.{block_length, is_piece_length}
use Rattle.history.specs.Growing.{node_count}
use Rattle.history.specs.Answers.{empty_history, no_history, begin_answer, possible_counts, Possible}
use Rattle.history.specs.declared.History.{History}

-- ---- begin

pub begin_done : (plen : ℕ) (block : Hashing) → is_piece_length plen ≡ true → block ≡ state_of []
    → record { number = 0; history = record { piece_length = plen; length = 0; block = block; nodes = replicate (32 * node_count) 0 } } ≡ begin_answer plen
unfolding begin_answer empty_history
begin_done plen block t e = rw (t, e)

pub begin_refused : (plen : ℕ) → is_piece_length plen ≡ false → record { number = facts_out_of_range; history = no_history } ≡ begin_answer plen
unfolding begin_answer
begin_refused plen t = rw t

-- ---- the counts

pub possible_says : (s : History) → possible_counts s ≡ true → Possible s
unfolding possible_counts
possible_says s e =
    let a : Bool = is_piece_length s.piece_length in
    let b : Bool = leb s.length longest_file in
    let c : Bool = eqb s.block.total (s.length % block_length) in
    let d : Bool = eqb s.block.tail_size (s.block.total % 64) in
    let abc = (and-eq-true_iff (is_piece_length s.piece_length && leb s.length longest_file && eqb s.block.total (s.length % block_length)) (eqb s.block.tail_size (s.block.total % 64))).0 e in
    let ab = (and-eq-true_iff (is_piece_length s.piece_length && leb s.length longest_file) (eqb s.block.total (s.length % block_length))).0 abc.0 in
    let aa = (and-eq-true_iff (is_piece_length s.piece_length) (leb s.length longest_file)).0 ab.0 in
    record {
      pieces = aa.0;
      short = leb-true s.length longest_file aa.1;
      inside = eqb-true s.block.total (s.length % block_length) ab.1;
      tail = eqb-true s.block.tail_size (s.block.total % 64) abc.1;
    }

pub says_possible : (s : History) → Possible s → possible_counts s ≡ true
unfolding possible_counts
says_possible s w =
    rw (w.pieces, le-leb s.length longest_file w.short, eq-eqb s.block.total (s.length % block_length) w.inside, eq-eqb s.block.tail_size (s.block.total % 64) w.tail)
