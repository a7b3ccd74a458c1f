-- Eight of many: a pair or a block of a part is one of the whole.
-- Assumes nothing.
use Rattle.std.specs.Prelude.{◌≡◌, refl, List, ℕ, ◌+◌, ◌*◌, ◌/◌, ◌<◌, ◌≤◌, length, take, drop}
use Rattle.std.proofs.Common.{ap, ap₂, ◌∙◌, arith}
use Rattle.octets.specs.Octets.{cut}
use Rattle.octets.specs.OctetsLaws.{cut_length, cut_cut}
use Rattle.sha256.specs.Sha256.{sha256, pair_hash}
use Rattle.lanes.specs.Hashes.{parent_of, eighth_hash, block_hash}

part : (s : List ℕ) (a n : ℕ) → take n (drop a s) ≡ cut s a n
unfolding cut
part s a n = refl

-- a pair of a part is a pair of the whole run
pub parent_in : (run : List ℕ) (c j k : ℕ) → j < 8 → k ≡ 512 → parent_of (take k (drop (64 * c) run)) j ≡ parent_of run (c + j)
unfolding parent_of
parent_in run c j k h e =
    let i : 64 * c + 64 * j ≡ 64 * (c + j) = omega arith in
    let i' : 64 * c + (64 * j + 32) ≡ 64 * (c + j) + 32 = omega arith in
    let p : cut (cut run (64 * c) k) (64 * j) 32 ≡ cut run (64 * (c + j)) 32 = cut_cut run (64 * c) k (64 * j) 32 (omega arith) ∙ ap (λ (a : ℕ). cut run a 32) i in
    let q : cut (cut run (64 * c) k) (64 * j + 32) 32 ≡ cut run (64 * (c + j) + 32) 32 = cut_cut run (64 * c) k (64 * j + 32) 32 (omega arith) ∙ ap (λ (a : ℕ). cut run a 32) i' in
    ap (λ (l : List ℕ). pair_hash (cut l (64 * j) 32) (cut l (64 * j + 32) 32)) (part run (64 * c) k) ∙ ap₂ pair_hash p q

-- an eighth of a part of eight blocks is a block
pub block_in : (bytes : List ℕ) (c j k : ℕ) → j < 8 → k ≡ 131072 → 16384 * c + k ≤ length bytes
    → eighth_hash (take k (drop (16384 * c) bytes)) j ≡ block_hash bytes (c + j)
unfolding eighth_hash block_hash
block_in bytes c j k h e f =
    let m : List ℕ = take k (drop (16384 * c) bytes) in
    let l : length m ≡ k = ap length (part bytes (16384 * c) k) ∙ cut_length bytes (16384 * c) k f in
    let n : length m / 8 ≡ 16384 = omega arith in
    let i : 16384 * c + j * 16384 ≡ 16384 * (c + j) = omega arith in
    ap (λ (a : ℕ). sha256 (cut m (j * a) a)) n
    ∙ ap (λ (v : List ℕ). sha256 (cut v (j * 16384) 16384)) (part bytes (16384 * c) k)
    ∙ ap sha256 (cut_cut bytes (16384 * c) k (j * 16384) 16384 (omega arith) ∙ ap (λ (a : ℕ). cut bytes a 16384) i)
