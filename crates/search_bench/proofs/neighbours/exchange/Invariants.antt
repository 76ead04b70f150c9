use Rattle.search_bench.proofs.neighbours.exchange.Given as goal

abbrev pub ghosts-exchange_counted : goal.ghosts-exchange_counted
ghosts-exchange_counted a = record { name = a.blank.name; parts = a.blank.parts }
