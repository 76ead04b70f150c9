use Rattle.std.proofs.Common.{◌≡◌, ◌∙◌, length, take, refl, rules, sym, subst, arith, length-take-le}
use Rattle.plain_text.proofs.ReadLemmas.{none_front_read, some_front_read, read_at, read_none}
use Rattle.poly_model.specs.Keys.{IsKey}
use Rattle.job_text.proofs.KeyTextLemmas.{key_parts, key_count, key_of_labels, key_front_tells}
use Rattle.job_text.proofs.keys.read_key_front.Goals as goal

pub returns-in_err-count : goal.returns-in_err-count
returns-in_err-count c =
    rw c.from_residual.ensures (none_front_read (λ key more has g is.
    let k = key_parts _ _ _ key more c.split_word.ensures has.is_key.room g is in
    read_none c.in_err-count.was c.read_count.ensures (length key) (omega (arith, has.is_key.room)) k.0))

pub returns-then-count : goal.returns-then-count
returns-then-count c = none_front_read (λ key more has g is.
    let r = read_at c.in_ok-count.was c.read_count.ensures in
    let k = key_count _ _ _ key more c.in_ok-count.count c.split_word.ensures has g is r.0 r.1 in
    omega (arith, k.0, has.is_key.room, c.if-count.true))

pub returns-in-None : goal.returns-in-None
returns-in-None c = none_front_read (λ key more has g is.
    let r = read_at c.in_ok-count.was c.read_count.ensures in
    let k = key_count _ _ _ key more c.in_ok-count.count c.split_word.ensures has g is r.0 r.1 in
    c.in-None.ensures.none refl key more has.labels (sym k.0) g k.1)

pub returns-in_err-key : goal.returns-in_err-key
returns-in_err-key c =
    let r = read_at c.in_ok-count.was c.read_count.ensures in
    let labels = take c.in_ok-count.count c.in-Some.found.0 in
    let size : length labels ≡ c.in_ok-count.count = search (rules, length-take-le) in
    let (all, split, goes_on) = c.in-Some.ensures.some in
    rw c.from_residual-in_err-key.ensures (none_front_read (λ key more has g is.
    let text = key_of_labels _ _ _ labels c.in-Some.found.1.now c.in_ok-count.count c.split_word.ensures r.1 size split in
    let same = key_front_tells labels key c.in-Some.found.1.now more (omega (arith, size, c.if-count.false)) has.is_key.room
    all has.labels goes_on g (sym text ∙ is) in
    c.in_err-key.ensures (subst IsKey (sym same.0) has.is_key)))

pub returns : goal.returns
returns c =
    let r = read_at c.in_ok-count.was c.read_count.ensures in
    let labels = take c.in_ok-count.count c.in-Some.found.0 in
    let size : length labels ≡ c.in_ok-count.count = search (rules, length-take-le) in
    let (all, split, goes_on) = c.in-Some.ensures.some in
    let key = c.in_ok-key.ensures in
    rw key.1
    (some_front_read labels c.in-Some.found.1 (record { is_key = key.0; labels = all })
    (key_of_labels _ _ _ labels c.in-Some.found.1.now c.in_ok-count.count c.split_word.ensures r.1 size split) goes_on)
