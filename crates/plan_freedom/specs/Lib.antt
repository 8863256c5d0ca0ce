-- The answer of `plan_freedom`, and laws of it. Assumes nothing.
pub mod Told
pub mod Laws
