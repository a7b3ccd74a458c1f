-- The code's table for the second block of a pair is the standard's schedule of that block with the round words added, which antt
-- computes over all entries at once.
-- Assumes nothing.
use Rattle.std.specs.Prelude.{◌≡◌, refl, List, [], ◌∷◌, ℕ}
use Rattle.bits.specs.Words.{rotr, σ₀, σ₁}
use Rattle.constants.specs.Constants.{root, indivisible, primes_from, primes, root_word, K}
use Rattle.padding.specs.Padding.{padding, zeros}
use Rattle.bits.specs.Parsing.{word_at, words}
use Rattle.rounds.specs.Block.{next, schedule}
use Rattle.rounds.specs.Sums.{sums}

unfoldable pub pair_table : List ℕ
pair_table =
    0xc28a_2f98 ∷ 0x7137_4491 ∷ 0xb5c0_fbcf ∷ 0xe9b5_dba5 ∷ 0x3956_c25b ∷ 0x59f1_11f1 ∷ 0x923f_82a4 ∷ 0xab1c_5ed5 ∷
    0xd807_aa98 ∷ 0x1283_5b01 ∷ 0x2431_85be ∷ 0x550c_7dc3 ∷ 0x72be_5d74 ∷ 0x80de_b1fe ∷ 0x9bdc_06a7 ∷ 0xc19b_f374 ∷
    0x649b_69c1 ∷ 0xf0fe_4786 ∷ 0x0fe1_edc6 ∷ 0x240c_f254 ∷ 0x4fe9_346f ∷ 0x6cc9_84be ∷ 0x61b9_411e ∷ 0x16f9_88fa ∷
    0xf2c6_5152 ∷ 0xa88e_5a6d ∷ 0xb019_fc65 ∷ 0xb9d9_9ec7 ∷ 0x9a12_31c3 ∷ 0xe70e_eaa0 ∷ 0xfdb1_232b ∷ 0xc735_3eb0 ∷
    0x3069_bad5 ∷ 0xcb97_6d5f ∷ 0x5a0f_118f ∷ 0xdc1e_eefd ∷ 0x0a35_b689 ∷ 0xde0b_7a04 ∷ 0x58f4_ca9d ∷ 0xe15d_5b16 ∷
    0x007f_3e86 ∷ 0x3708_8980 ∷ 0xa507_ea32 ∷ 0x6fab_9537 ∷ 0x1740_6110 ∷ 0x0d8c_d6f1 ∷ 0xcdaa_3b6d ∷ 0xc0bb_be37 ∷
    0x8361_3bda ∷ 0xdb48_a363 ∷ 0x0b02_e931 ∷ 0x6fd1_5ca7 ∷ 0x521a_faca ∷ 0x3133_8431 ∷ 0x6ed4_1a95 ∷ 0x6d43_7890 ∷
    0xc39c_91f2 ∷ 0x9ecc_abbd ∷ 0xb5c9_a0e6 ∷ 0x532f_b63c ∷ 0xd2c7_41c6 ∷ 0x0723_7ea3 ∷ 0xa495_4b68 ∷ 0x4c19_1d76 ∷ []

pub pair_table_rule : pair_table ≡ sums 64 K (schedule 48 (padding 64))
unfolding pair_table root indivisible primes_from primes root_word K rotr σ₀ σ₁ padding zeros word_at words next schedule sums
pair_table_rule = refl
