-- The examples, the claims, how long a report is, and a law by which texts are put together in another order.
pub mod Regrouping
pub mod Examples
pub mod SizeLaws
pub mod Claimed
