pub mod DistinctKeys
