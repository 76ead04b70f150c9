use Rattle.subtree_work.proofs.Beginnings.{key_is, still_fit, key_is_due}
use Rattle.subtree_work.proofs.work.go_to.Goals as goal

pub returns-clause-key : goal.returns-clause-key
returns-clause-key g c p file =
    let s = c.args.search.now in
    key_is p s.sys.now s.rays s.walker s.vector.items (c.requires.search.each p file) c.args.key.now c.start.new.self
    c.start.result c.start.ensures.start

pub returns-clause-overflow : goal.returns-clause-overflow
returns-clause-overflow g c p file =
    let s = c.args.search.now in
    key_is_due p s.sys.now s.rays s.walker s.vector.items (c.requires.search.each p file) c.args.key.now c.start.new.self
    c.start.result c.start.ensures.stops

pub returns-clause-search : goal.returns-clause-search
returns-clause-search g c =
    let s = c.args.search.now in
    record {
      file = c.requires.search.file;
      each = λ p file. still_fit p s.sys.now s.rays s.walker s.vector.items (c.requires.search.each p file) c.args.key.now
          c.start.new.self c.start.result c.start.ensures.start c.start.ensures.unchanged;
    }
