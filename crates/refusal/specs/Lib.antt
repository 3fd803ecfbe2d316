-- Numbers: the number of each refusal, and document 01's answer in each case of the code's result.
pub mod Numbers
