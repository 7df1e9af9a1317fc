use Rattle.cord_file.proofs.blocks.read_block.Goals as goal

pub returns-clause-device : goal.returns-clause-device
returns-clause-device g c = c.read_range.ensures.device
