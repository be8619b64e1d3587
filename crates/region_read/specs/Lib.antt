pub mod RegionRead
