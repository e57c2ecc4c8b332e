-- What is made of what was read is made of the input.
use Rattle.lossmap.proofs.Reading.{made_of_input}
use Rattle.lossmap.proofs.answer.Goals as goal

pub returns-clause-output : goal.returns-clause-output
returns-clause-output g c = made_of_input _ _ _ _ _ _ _ c.in_ok-length.ensures.whole c.program_output.ensures
