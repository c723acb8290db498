-- Theorems about what specs/ defines:
pub mod ChartExact
pub mod StepForStep
pub mod IdsZero
pub mod Belt
pub mod Orders
pub mod Free
pub mod Forecasts
pub mod LastForecast
pub mod UpstreamNone
pub mod Bench
pub mod Examples
pub mod Only
-- For their proofs only:
pub mod Laws
pub mod IdLaws
pub mod OrderLaws
