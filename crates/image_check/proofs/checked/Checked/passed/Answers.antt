use Rattle.image_check.proofs.checked.Checked.passed.Goals as goal

pub returns-in-Byte-clause-holds : goal.returns-in-Byte-clause-holds
returns-in-Byte-clause-holds c = rw (c.in-Byte.is, ← c.self.view_is) (c.byte_passed.ensures.holds c.self.inside.starts.now)
