use Rattle.nntp_wire.specs.declared.misspelling.Misspelling.TheVariants.{WrongOctet, TooLong, NoCode, WrongArgument, WrongLine, WrongBlock}
use Rattle.nntp_wire.proofs.MisspellingsAreSo.{so}
use Rattle.nntp_wire.proofs.laws.misspellings_are_so.Goals as goal

pub returns-clause-octet : goal.returns-clause-octet
returns-clause-octet c = λ asked line sent. so asked line sent WrongOctet

pub returns-clause-length : goal.returns-clause-length
returns-clause-length c = λ asked line sent n. so asked line sent (TooLong n)

pub returns-clause-code : goal.returns-clause-code
returns-clause-code c = λ asked line sent. so asked line sent NoCode

pub returns-clause-argument : goal.returns-clause-argument
returns-clause-argument c = λ asked line sent place due. so asked line sent (WrongArgument place due)

pub returns-clause-line : goal.returns-clause-line
returns-clause-line c = λ asked line sent place fault. so asked line sent (WrongLine place fault)

pub returns-clause-block : goal.returns-clause-block
returns-clause-block c = λ asked line sent. so asked line sent WrongBlock
