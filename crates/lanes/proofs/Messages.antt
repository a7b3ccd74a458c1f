-- Messages and pairs as the lanes take them: eight of one length, one after the other in a list.
-- Assumes nothing.
use Rattle.std.specs.Prelude.{◌≡◌, refl, List, ◌++◌, ℕ, ◌+◌, ◌-◌, ◌*◌, ◌/◌, ◌%◌, ◌<◌, ◌≤◌, length, take, drop}
use Rattle.std.proofs.Common.{ap, sym, ◌∙◌, arith, length-drop, take_all, take-add, drop-drop}
use Rattle.octets.specs.Octets.{cut}
use Rattle.octets.specs.OctetsLaws.{cut_length, cut_cut}
use Rattle.constants.specs.Constants.{K}
use Rattle.padding.specs.Padding.{padding}
use Rattle.padding.specs.Cutting.{over_blocks, over_message}
use Rattle.padding.specs.CuttingLaws.{blocks_more, message_split, message_of_64}
use Rattle.rounds.specs.Block.{schedule, plus, compress}
use Rattle.rounds.specs.Sums.{sums, rounds_by}
use Rattle.rounds.specs.SumsLaws.{compress_by_sums}
use Rattle.rounds.specs.declared.State.{State}
use Rattle.sha256.specs.Sha256.{start, digest, sha256, pair_hash}
use Rattle.lanes.specs.LanesLaws.{reach}

-- one block more of message j
pub message_more : (k s : List ℕ) (z u r : State) (n i j : ℕ) → 64 * i + 64 ≤ n
    → u ≡ over_blocks (compress k) i z (cut s (j * n) n)
    → r ≡ compress k u (cut s (64 * i + j * n) 64)
    → r ≡ over_blocks (compress k) (i + 1) z (cut s (j * n) n)
unfolding cut
message_more k s z u r n i j h e f =
    let c : 64 * i + j * n ≡ j * n + 64 * i = omega arith in
    let b : cut s (64 * i + j * n) 64 ≡ cut (cut s (j * n) n) (64 * i) 64 = ap (λ (a : ℕ). cut s a 64) c ∙ sym (cut_cut s (j * n) n (64 * i) 64 h) in
    f ∙ ap (compress k u) b
    ∙ ap (λ (v : State). compress k v (cut (cut s (j * n) n) (64 * i) 64)) e
    ∙ blocks_more (compress k) (cut s (j * n) n) z i

-- its whole blocks, and its last bytes with the padding, are the message
pub message_law : (k s : List ℕ) (z u : State) (n j : ℕ) → 8 * n ≤ length s → j < 8
    → u ≡ over_blocks (compress k) (n / 64) z (cut s (j * n) n)
    → let from : ℕ = j * n + n - n % 64 in
    let rest : List ℕ = take (j * n + n - from) (drop from s) in
    over_blocks (compress k) (length (rest ++ padding n) / 64) u (rest ++ padding n) ≡ over_message (compress k) z (cut s (j * n) n)
unfolding cut
message_law k s z u n j h b e =
    let m : List ℕ = cut s (j * n) n in
    let at : ℕ = n - n % 64 in
    let from : ℕ = j * n + n - n % 64 in
    let fits = reach j n b in
    let l : length m ≡ n = cut_length s (j * n) n (omega arith) in
    let f : from ≡ j * n + at = omega arith in
    let g : j * n + n - from ≡ n - at = omega arith in
    let d : take (j * n + n - from) (drop from s) ≡ drop at m =
    ap (λ (y : ℕ). take y (drop from s)) g
    ∙ ap (λ (y : ℕ). take (n - at) (drop y s)) f
    ∙ sym (cut_cut s (j * n) n at (n - at) (omega arith))
    ∙ take_all (n - at) (drop at m) (omega (arith, length-drop at m)) in
    let q = message_split (compress k) m z at (ap (λ (y : ℕ). y - y % 64) (sym l)) in
    ap (λ (x : List ℕ). over_blocks (compress k) (length (x ++ padding n) / 64) u (x ++ padding n)) d
    ∙ ap (λ (v : State). over_blocks (compress k) (length (drop at m ++ padding n) / 64) v (drop at m ++ padding n)) e
    ∙ ap (λ (y : ℕ). over_blocks (compress k) (length (drop at m ++ padding y) / 64) (over_blocks (compress k) (y / 64) z m) (drop at m ++ padding y)) (sym l)
    ∙ q

pub hash_of : (k m h : List ℕ) (z : State) → k ≡ K → z ≡ start → h ≡ digest (over_message (compress k) z m) → h ≡ sha256 m
unfolding sha256
hash_of k m h z ek ez e = e ∙ ap (λ (x : List ℕ). digest (over_message (compress x) z m)) ek ∙ ap (λ (v : State). digest (over_message (compress K) v m)) ez

-- two hashes side by side are one block, and the rounds by the table are those of the padding
pub pair_of : (k x s h : List ℕ) (z u v : State) (j : ℕ) → k ≡ K → x ≡ sums 64 K (schedule 48 (padding 64)) → z ≡ start → length s ≡ 512 → j < 8
    → u ≡ compress k z (cut s (0 + j * 64) 64)
    → v ≡ plus u (rounds_by x 64 u)
    → h ≡ digest v
    → h ≡ pair_hash (cut s (64 * j) 32) (cut s (64 * j + 32) 32)
unfolding cut pair_hash sha256
pair_of k x s h z u v j ek ex ez ls b eu ev eh =
    let m : List ℕ = cut s (64 * j) 32 ++ cut s (64 * j + 32) 32 in
    let i : 0 + j * 64 ≡ 64 * j = omega arith in
    let em : cut s (0 + j * 64) 64 ≡ m =
    ap (λ (a : ℕ). cut s a 64) i ∙ take-add 32 32 (drop (64 * j) s)
    ∙ ap (λ (l : List ℕ). cut s (64 * j) 32 ++ take 32 l) (drop-drop 32 (64 * j) s) in
    let lm : length m ≡ 64 = ap length (sym em) ∙ cut_length s (0 + j * 64) 64 (omega arith) in
    let q = message_of_64 (compress K) m start lm in
    let t : v ≡ compress K u (padding 64) = ev ∙ ap (λ (y : List ℕ). plus u (rounds_by y 64 u)) ex ∙ compress_by_sums K (padding 64) u in
    let r : v ≡ over_message (compress K) start m = cc in
    eh ∙ ap digest r

pub length_digest : (s : State) → length (digest s) ≡ 32
unfolding digest
length_digest s = refl
