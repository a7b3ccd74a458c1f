-- What the functions of this crate ask for: a store of ls bytes has the cells of a subtree, or of a way. Assumes nothing.
use Rattle.std.specs.Prelude.{ℕ, ◌+◌, ◌*◌, ◌/◌, ◌^◌, ◌≤◌}

-- the lowest layer of the subtree of height k whose top is n ends below b
unfoldable pub Within : ℕ → ℕ → ℕ → Type 0
Within b k n = (n + 1) * 2 ^ k ≤ b

-- the subtree of height k whose top is n, number j of its height
pub record Fit (ls k n j : ℕ) : Type 0 where
  pub room : 31 + 33 * ((n + 1) * 2 ^ k) ≤ ls
  pub index : j ≤ n

-- the way u layers up from n by the uncles from number i on, of a string of lh bytes: n, the position beside it, and all above them
pub record Way (ls lh i u n : ℕ) : Type 0 where
  pub room : 31 + 33 * (2 * (n / 2) + 2) ≤ ls
  pub uncles : 32 * (i + u) ≤ lh

-- how many layers the heap in a room has above its leaves, and the room's bytes
abbrev pub room_layers : ℕ
room_layers = 9

abbrev pub room_size : ℕ
room_size = 32768
