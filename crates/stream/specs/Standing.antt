-- A state that some bytes give, and that is not refused, beside a room of n bytes.
-- Assumes nothing.
use Rattle.std.specs.Prelude.{◌≡◌, ℕ, ◌^◌, ◌≤◌, ◌<◌}
use Rattle.limits.specs.Limits.{longest_frame}
use Rattle.stream.specs.declared.Stream.{Stream}

-- inside the prefix; or inside a frame
pub record Going (s : Stream) (n : ℕ) : Type 0 where
  pub in_prefix : s.length_size < 4 → (s.length < 256 ^ s.length_size) × (s.read ≡ 0) × (s.mode ≡ 0)
  pub in_frame : 4 ≤ s.length_size → (s.length_size ≡ 4) × (s.length ≤ longest_frame) × (s.read < s.length) × (s.mode ≡ 0 → s.read ≤ n) × (0 < s.mode → 0 < s.read)
  pub running : s.mode < 4

-- a refused one
pub record Refused (s : Stream) : Type 0 where
  pub whole : s.length_size ≡ 4
  pub long : longest_frame < s.length
  pub none : s.read ≡ 0
  pub mode : s.mode ≡ 4
