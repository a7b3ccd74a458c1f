-- The version of the library, as kd_version gives it: a million for the first figure, a thousand for the second, one for the third.
-- Assumes nothing.
use Rattle.std.specs.Prelude.{ℕ}

abbrev pub version : ℕ
version = 15000
