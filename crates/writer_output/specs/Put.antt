-- Bytes put at a place of the output. The place behind them is given also where they do not fit: so one pass measures and the same pass
-- writes.
-- Assumes nothing.
use Rattle.std.specs.Prelude.{◌≡◌, List, ℕ, ◌+◌, ◌≤◌, length}
use Rattle.octets.specs.Octets.{pasted}

-- r is the place behind b, put at `at`; and with room up to r, b stands there and nothing else changed
pub record Put (s : List ℕ) (at : ℕ) (b t : List ℕ) (r : ℕ) : Type 0 where
  pub behind : r ≡ at + length b
  pub there : r ≤ length s → t ≡ pasted s at b
