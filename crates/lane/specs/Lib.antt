-- Document 01, "The lane", with order 3.
-- What is defined, to be read in this order:
pub mod Names
pub mod Chart
pub mod Ids
pub mod Record
-- What the theorems about it speak of; they stand in proofs/, each in the file of the same name:
pub mod ChartExact
pub mod StepForStep
pub mod IdsZero
pub mod Belt
pub mod Orders
pub mod Free
pub mod Forecasts
pub mod LastForecast
pub mod Bench
