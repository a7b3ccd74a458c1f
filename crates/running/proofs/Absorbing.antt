-- A burst as the code takes it: beside the tail, or a block, the whole blocks of the rest and a new tail. And the end.
-- Assumes nothing.
use Rattle.std.specs.Prelude.{◌≡◌, refl, List, [], ◌++◌, ℕ, ◌+◌, ◌-◌, ◌*◌, ◌/◌, ◌%◌, ◌≤◌, ◌<◌, length, take, drop}
use Rattle.std.proofs.Common.{ap, sym, ◌∙◌, append-nil, arith, length-append, length-drop, drop_of_length-le, take_all, drop-cons, length-take-le}
use Rattle.std.proofs.Math.Seq.{take-append-add, drop-append-add}
use Rattle.constants.specs.Constants.{K}
use Rattle.padding.specs.Padding.{padding}
use Rattle.padding.specs.Cutting.{over_blocks}
use Rattle.padding.specs.Running.{tail_array, whole_blocks, past_blocks, running_of, running_more, running_end}
use Rattle.padding.specs.RunningLaws.{whole_short, past_short, whole_first, past_first}
use Rattle.rounds.specs.Block.{compress}
use Rattle.rounds.specs.declared.State.{State}
use Rattle.sha256.specs.Sha256.{start}
use Rattle.running.specs.Bursts.{to_words, from_words, saying, said_by, state_of, absorbed}
use Rattle.running.specs.BurstsLaws.{absorbed_counts}
use Rattle.running.specs.declared.Hashing.{Hashing}

-- eight words through a state and back
pub words_back : (w : List ℕ) → length w ≡ 8 → to_words (from_words w) ≡ w
unfolding to_words from_words
words_back w l =
    sym
    (cc (drop-cons w 0 0 (omega arith), drop-cons w 1 0 (omega arith), drop-cons w 2 0 (omega arith), drop-cons w 3 0 (omega arith), drop-cons w 4 0 (omega arith), drop-cons w 5 0 (omega arith), drop-cons w 6 0 (omega arith), drop-cons w 7 0 (omega arith), drop_of_length-le w {i = 8} (omega arith)))

-- the burst lies beside the tail, and no block is complete
pub beside_law : (h : Hashing) (s tail : List ℕ) (size total : ℕ) → length h.words ≡ 8 → length h.tail ≡ 64 → h.tail_size + length s < 64
    → tail ≡ tail_array (take h.tail_size h.tail ++ s)
    → size ≡ h.tail_size + length s
    → total ≡ h.total + length s
    → record { words = h.words; tail = tail; tail_size = size; total = total } ≡ absorbed h s
unfolding absorbed saying said_by running_more
beside_law h s tail size total lw lt b et es en =
    let m : List ℕ = take h.tail_size h.tail ++ s in
    let lm : length m ≡ h.tail_size + length s = length-append (take h.tail_size h.tail) s ∙ ap (λ (n : ℕ). n + length s) (length-take-le h.tail_size h.tail (omega arith)) in
    let w = whole_short (compress K) (from_words h.words) m (omega arith) in
    let p = past_short m (omega arith) in
    cc (words_back h.words lw)

-- a tail array that is full has no zeros behind
full_array : (t : List ℕ) → length t ≡ 64 → tail_array t ≡ t
unfolding tail_array
full_array t l = let e : 64 - length t ≡ 0 = omega arith in rw (e, append-nil t)

-- the whole blocks and what is left of them, as the code has them
blocks_as_coded : (f : State → List ℕ → State) (t : State) (rest : List ℕ) → over_blocks f (length rest / 64) t rest ≡ whole_blocks f t rest
unfolding whole_blocks
blocks_as_coded f t rest = refl

past_as_coded : (rest : List ℕ) → take (length rest - (length rest - length rest % 64)) (drop (length rest - length rest % 64) rest) ≡ past_blocks rest
unfolding past_blocks
past_as_coded rest =
    let at : length rest - length rest % 64 ≡ 64 * (length rest / 64) = omega arith in
    take_all (length rest - (length rest - length rest % 64)) (drop (length rest - length rest % 64) rest) (omega (arith, length-drop (length rest - length rest % 64) rest))
    ∙ ap (λ (j : ℕ). drop j rest) at

-- the burst completes a block
pub block_law : (h : Hashing) (s k first rest left words tail : List ℕ) (t u : State) (size total : ℕ) → length h.tail ≡ 64 → h.tail_size < 64
    → 64 - h.tail_size ≤ length s
    → k ≡ K
    → first ≡ tail_array (take h.tail_size h.tail ++ take (64 - h.tail_size) s)
    → t ≡ compress k (from_words h.words) (take 64 (drop 0 first))
    → rest ≡ take (length s - (64 - h.tail_size)) (drop (64 - h.tail_size) s)
    → u ≡ over_blocks (compress k) (length rest / 64) t rest
    → left ≡ take (length rest - (length rest - length rest % 64)) (drop (length rest - length rest % 64) rest)
    → words ≡ to_words u
    → tail ≡ tail_array (take 0 h.tail ++ left)
    → size ≡ length left
    → total ≡ h.total + length s
    → record { words = words; tail = tail; tail_size = size; total = total } ≡ absorbed h s
unfolding absorbed saying said_by running_more
block_law h s k first rest left words tail t u size total lt hn hs ek ef et er eu el ew ea es en =
    cc (whole_first (compress K) (from_words h.words) m enough, past_first m enough, ek, first_is, rest_is, blocks_as_coded (compress k) t rest, past_as_coded rest)
  where
    n : ℕ
    n = h.tail_size

    m : List ℕ
    m = take n h.tail ++ s

    lt' : length (take n h.tail) ≡ n
    lt' = length-take-le n h.tail (omega arith)

    enough : 64 ≤ length m
    enough = omega (arith, length-append (take n h.tail) s, lt')

    cut_64 : length (take n h.tail) + (64 - n) ≡ 64
    cut_64 = omega (arith, lt')

    first_m : take 64 m ≡ take n h.tail ++ take (64 - n) s
    first_m = ap (λ (j : ℕ). take j m) (sym cut_64) ∙ take-append-add (take n h.tail) s (64 - n)

    rest_m : drop 64 m ≡ drop (64 - n) s
    rest_m = ap (λ (j : ℕ). drop j m) (sym cut_64) ∙ drop-append-add (take n h.tail) s (64 - n)

    first_length : length (take 64 m) ≡ 64
    first_length = length-take-le 64 m enough

    first_is : take 64 (drop 0 first) ≡ take 64 m
    first_is =
        let e : first ≡ take 64 m = ef ∙ ap tail_array (sym first_m) ∙ full_array (take 64 m) first_length in
        ap (take 64) e ∙ take_all 64 (take 64 m) (omega (arith, first_length))

    rest_is : rest ≡ drop 64 m
    rest_is = er ∙ take_all (length s - (64 - n)) (drop (64 - n) s) (omega (arith, length-drop (64 - n) s)) ∙ sym rest_m

-- the counts of a state that a burst leads to
pub with_counts : (h : Hashing) (s : List ℕ) {r : Hashing} → length h.tail ≡ 64 → h.tail_size ≡ h.total % 64 → r ≡ absorbed h s
    → (r ≡ absorbed h s) × (r.tail_size ≡ r.total % 64)
with_counts h s l p e = (e, ap (λ (r : Hashing). r.tail_size) e ∙ absorbed_counts h s l p ∙ sym (ap (λ (r : Hashing). r.total % 64) e))

-- the end: the tail with the padding behind
pub end_as_coded : (h : Hashing) (k : List ℕ) (n : ℕ) (t : State) → n ≡ h.tail_size → k ≡ K → t ≡ from_words h.words
    → over_blocks (compress k) (length (take n h.tail ++ padding h.total) / 64) t (take n h.tail ++ padding h.total) ≡ running_end (compress K) (said_by h)
unfolding running_end said_by whole_blocks
end_as_coded h k n t en ek et = rw (en, ek, et)

-- a burst into no bytes: the state that everything begins with
pub begin_law : (w t : List ℕ) → w ≡ to_words start → t ≡ tail_array [] → record { words = w; tail = t; tail_size = 0; total = 0 } ≡ state_of []
unfolding state_of saying running_of
begin_law w t ew et = cc (whole_short (compress K) start [] (omega arith), past_short [] (omega arith))
