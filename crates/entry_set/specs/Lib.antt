-- Sets as numbers: Joined, Sets and Lanes are the definitions, Cases computes them, the other files hold laws. Assumes nothing.
pub mod Joined
pub mod JoinedLaws
pub mod Sets
pub mod SetLaws
pub mod Compared
pub mod SingleLaws
pub mod Lanes
pub mod LaneLaws
pub mod Cases
