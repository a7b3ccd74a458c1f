-- 01 and 02: how large things may be. Each limit stands here once for the contracts, and once in src/ for the code.
-- Assumes nothing.
use Rattle.std.specs.Prelude.{ℕ, ◌-◌, ◌^◌}

-- the longest file, in bytes
abbrev pub longest_file : ℕ
longest_file = 2 ^ 34

-- the height of its tree
abbrev pub tallest_tree : ℕ
tallest_tree = 20

-- the longest base run of a message, in hashes
abbrev pub longest_run : ℕ
longest_run = 8192

-- the largest torrent, in bytes
abbrev pub largest_torrent : ℕ
largest_torrent = 2 ^ 20

-- the longest string that SHA-1 and SHA-256 have a hash for, in bytes: one of 2^64 bits has none (FIPS 180-4)
abbrev pub longest_hashed : ℕ
longest_hashed = 2 ^ 61 - 1

-- how deeply a torrent may be nested, the outer dictionary being the first level
abbrev pub max_levels : ℕ
max_levels = 32

-- the longest frame of a neighbour's stream, in bytes, its prefix not counted
abbrev pub longest_frame : ℕ
longest_frame = 300000
