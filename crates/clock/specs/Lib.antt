-- Clock setup by code: stepping by hand, and the machine. What a setting is to do is in `clock_setting`.
pub mod Steps
pub mod Inner
