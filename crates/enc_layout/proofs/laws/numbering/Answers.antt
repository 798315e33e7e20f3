use Rattle.enc_layout.specs.Letters.{Unpruned}
use Rattle.enc_layout.proofs.Numbers.{number_is, length-all_letters}
use Rattle.enc_layout.proofs.Numbering.{list_range}
use Rattle.enc_layout.proofs.Fitting.{first_fits, lower_fits}
use Rattle.enc_layout.proofs.laws.numbering.Goals as goal

pub returns-clause-place : goal.returns-clause-place
returns-clause-place c kind n d p h = let s = number_is kind n d p h in (s.0, s.1, s.2.inside, s.2.is Unpruned)

pub returns-clause-count : goal.returns-clause-count
returns-clause-count c kind n d = length-all_letters kind n d

pub returns-clause-first : goal.returns-clause-first
returns-clause-first c = first_fits

pub returns-clause-lower : goal.returns-clause-lower
returns-clause-lower c = lower_fits

pub returns-clause-known : goal.returns-clause-known
returns-clause-known c f kind d = list_range f kind d
