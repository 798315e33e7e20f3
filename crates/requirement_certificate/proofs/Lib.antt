mod First
mod Judged
mod Printable
mod Formulas
mod Written
