use Rattle.b2_prepare.proofs.prepare.plan_request.Given as goal

abbrev pub ghosts-plan_over : goal.ghosts-plan_over
ghosts-plan_over g a = record { outside = g.F.Files.outside a.files.now }
