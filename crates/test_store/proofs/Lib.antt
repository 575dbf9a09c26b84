pub mod NewKeep
