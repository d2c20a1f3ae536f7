use Rattle.report_check.proofs.running.compare_reports.Given as goal

-- the report that is there
abbrev pub ghosts-compare_chosen : goal.ghosts-compare_chosen
ghosts-compare_chosen g a = record { whole = g.B.Source.left a.report.now; faults = g.B.Source.faults a.report.now; reference = a.report.ghost_name }
