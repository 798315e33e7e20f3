-- Lemmas on the words, on what is printed of a trace, and on what is answered.
mod Reading
mod Printing
mod Answering
