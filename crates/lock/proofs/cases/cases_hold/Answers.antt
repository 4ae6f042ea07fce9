use Rattle.lock.proofs.Answering.{over_packed, over_words}
use Rattle.lock.proofs.Computed.{alone, answers, checks, opening, questions, waiting}
use Rattle.lock.proofs.cases.cases_hold.Goals as goal

pub returns-clause-alone : goal.returns-clause-alone
returns-clause-alone c = (alone over_words, alone over_packed)

pub returns-clause-waiting : goal.returns-clause-waiting
returns-clause-waiting c = (waiting over_words, waiting over_packed)

pub returns-clause-answers : goal.returns-clause-answers
returns-clause-answers c = (answers over_words, answers over_packed)

pub returns-clause-opening : goal.returns-clause-opening
returns-clause-opening c = opening

pub returns-clause-questions : goal.returns-clause-questions
returns-clause-questions c = (questions over_words, questions over_packed)

pub returns-clause-checks : goal.returns-clause-checks
returns-clause-checks c = checks
