use Rattle.sn_dir.proofs.blocks.decoded.Goals as goal

pub returns-in-None-clause-damaged : goal.returns-in-None-clause-damaged
returns-in-None-clause-damaged c = (c.at.ensures, λ spelled. cc (c.in-None.ensures.only spelled.0 spelled.1))
