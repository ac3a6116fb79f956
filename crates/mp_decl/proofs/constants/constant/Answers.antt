use Rattle.mp_decl.proofs.constants.constant.Goals as goal

pub returns-in-Name : goal.returns-in-Name
returns-in-Name g c = rw c.in-Name.is c.named.ensures
