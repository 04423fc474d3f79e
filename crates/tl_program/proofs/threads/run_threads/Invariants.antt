use Rattle.tl_program.proofs.threads.run_threads.Given as goal

-- the arena that was made
abbrev pub ghosts-run_named : goal.ghosts-run_named
ghosts-run_named g a = record { arena = a.arena }
