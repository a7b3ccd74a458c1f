pub mod Keys
pub mod Nth
pub mod Torrent
pub mod Amiss
pub mod Counting
pub mod Paths
