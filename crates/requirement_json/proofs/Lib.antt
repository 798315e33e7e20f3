-- That what is written of a report has no float, and no newline within.
mod OneLine
mod Plain
mod PlainAnswers
