use Rattle.std.proofs.Common.{◌≡◌, ℕ, ◌*◌, get_or, pos, length, ◌+ℤ◌, ℤ, List, subst, sym, ◌∙◌, rules}
use Rattle.std.proofs.lemmas.List.{with_items_is}
use Rattle.columns.specs.Cells.{AllowsExchange}
use Rattle.columns.specs.Steps.{AreFactors, IsOwnColumn}
use Rattle.columns.specs.Sizes.{IsOf, AreOf}
use Rattle.columns.proofs.SizeLemmas.{word_parts}
use Rattle.columns.proofs.cells.Cells.exchange_words.Goals as goal

pub write_words-requires-clause-parts : goal.write_words-requires-clause-parts
write_words-requires-clause-parts c =
    let x = c.args.x.now in
    let f = c.args.factors.now in
    let same : c.args.self.now ≡ c.deref-2.result.now = search rules in
    let first : c.deref.result.now ≡ c.deref-2.result.now = search rules in
    let column = c.own_of.ensures.own c.if-not-own_of.false in
    let own : c.own_of.new.own ≡ c.deref-own.result.now =
    sym (with_items_is c.own.inside.words c.own_of.new.own (search rules)) ∙ sym c.deref-own.ensures.value in
    let wider = c.common_size-size.ensures in
    let all : length c.self.inside.words.items ≡ x.width * x.height = search rules in
    let words : c.self.inside.words.items ≡ c.deref-2.result.now = search rules in
    let sizes : AreOf c.self.inside.size (x.width * x.height) c.deref-2.result.now =
    subst (λ (n : ℕ). AreOf c.self.inside.size n c.deref-2.result.now) all
    (subst (λ (cells : List ℤ). AreOf c.self.inside.size (length c.self.inside.words.items) cells) words
    c.self.invariant.1) in
    let here : c.at_place.result ≡ get_or c.deref-own.result.now x.row (pos 0) = search rules in
    word_parts c.deref-2.result.now _ (subst (λ (cells : List ℤ). AllowsExchange x cells) same c.requires.can)
    (subst (λ (cells : List ℤ). AreFactors x cells f) same c.requires.factors)
    (subst (λ (cells : List ℤ). IsOwnColumn x cells f (f.p +ℤ f.u) c.deref-own.result.now) first
    (subst (λ (numbers : List ℤ). IsOwnColumn x c.deref.result.now f (f.p +ℤ f.u) numbers) own column))
    c.in_ok-p.ensures.1 c.in_ok-u.ensures.1
    (λ k l. wider.first _ (sizes k l))
    (subst (IsOf c.common_size-size.result) here (wider.second _ c.size_of.ensures)) c.limit_of.ensures
