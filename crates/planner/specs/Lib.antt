-- What the program prints for any bytes (`printed`), and that the first 1,585 of them decide it (`printed_prefix`).
pub mod Printed
