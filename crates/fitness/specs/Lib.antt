-- What crate fitness rests on. The contracts of `fit` and `total` are equations with temporal's `fits` and `total`.
-- Fit.fit_answer: the rules over nodes decide fitness. Total.total_in: the total as a sum over the arrays.
pub mod Fit
pub mod Total
