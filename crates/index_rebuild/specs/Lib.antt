-- What a rebuild knows of the cells that are used.
pub mod InnerMap
pub mod InnerRebuild
