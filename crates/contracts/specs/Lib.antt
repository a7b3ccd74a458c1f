pub mod OneOutcome
pub mod Says
-- demand 1 over all entry points: its words, the theorems, and that both are about the contracts
pub mod Entries
pub mod Demand1
pub mod Outcomes
-- a hybrid's piece judged with what kd_torrent_v1_piece answers
pub mod HybridJudged
-- a list that kd_torrent_list writes, for kd_place and kd_first_piece
pub mod Lists
