-- The calls of the outside keep the network, the number of commits and what is kept, and what they say of the network.
use Rattle.kpn_pool_desk.proofs.Common.{◌≡◌, ℕ, Bool, true, false, ℤ, List, ◌∷◌, ◌++◌, Option, Some, None, ap, sym, ◌∙◌, subst, IsPrefix, IsPrefix-from_rest, Tables, channel_at, is_source, is_sink, Event, Book, IsBook, Appends, Happens, Refused, RefusesFeed, RefusesClose, RefusesTake, RefusesLeave, closes_by, takes_item, leaves_by, RemembersAsMuch, commits_stay, tables_stay, same_much, appends_much, happens_much, Desk, IsDesk, with_book, with_total, MayRefuseFeed, MayRefuseEnd, MayRefuseTake}
use Rattle.kpn_net.specs.declared.tables.ChannelSpec.{ChannelSpec}
use Rattle.kpn_history.specs.declared.keeping.Keeping.{Keeping}
use Rattle.kpn_book.specs.declared.answers.Refused.TheVariants.{NoMemory, NoSuchEnd, SourceClosed, Full, SinkLeft}

-- the network, the number of commits and what is kept are the same
pub record KeepsCount (before after : Book) : Type 0 where
  pub tables : after.tables ≡ before.tables
  pub commits : after.commits ≡ before.commits
  pub remembers : RemembersAsMuch before after

stays : (before after : Book) → after ≡ before → KeepsCount before after
stays before after same = record {
  tables = ap (λ b. b.tables) same;
  commits = ap (λ b. b.commits) same;
  remembers = same_much before after same;
}

pub appends : (e : Event) (before after : Book) → Appends e before after → KeepsCount before after
appends e before after h = record {
  tables = h.tables;
  commits = h.commits;
  remembers = appends_much e before after h;
}

happens : (e : Event) (before after : Book) → Happens e before after → KeepsCount before after
happens e before after h = record {
  tables = tables_stay (e ∷ h.growth) before after h.appends;
  commits = commits_stay (e ∷ h.growth) before after h.appends;
  remembers = happens_much e before after h;
}

pub closes : (closed : Bool) (c : ℕ) (before after : Book) → closes_by closed c before after → KeepsCount before after
closes true c before after h = stays before after h
closes false c before after h = happens _ before after h

pub takes : (c : ℕ) (item : Option ℤ) (before after : Book) → takes_item c item before after → KeepsCount before after
takes c None before after h = stays before after h.1
takes c (Some v) before after h = happens _ before after h.1

pub leaves : (left : Bool) (c : ℕ) (before after : Book) → leaves_by left c before after → KeepsCount before after
leaves true c before after h = stays before after h
leaves false c before after h = happens _ before after h

-- ---- a desk whose book has changed is still one of the same run

module _ {t : Tables} {count : ℕ} {keeping : Keeping} {d : Desk} (is : IsDesk t count keeping d) (after : Book) where
  pub counted_desk : (total : ℕ) → IsBook after → after.tables ≡ d.book.tables → RemembersAsMuch d.book after
      → total ≡ after.commits → IsDesk t count keeping (with_total after total d)
  counted_desk total book tables much counted = record {
    network = tables ∙ is.network;
    book = book;
    remembers = much keeping is.remembers;
    counted = counted;
    workers = is.workers;
  }

  pub still_desk : IsBook after → KeepsCount d.book after → IsDesk t count keeping (with_book after d)
  still_desk book keeps =
      counted_desk d.total book keeps.tables keeps.remembers (is.counted ∙ sym keeps.commits)

  pub same_desk : after ≡ d.book → IsDesk t count keeping (with_book after d)
  same_desk same = still_desk (subst (λ b. IsBook b) (sym same) is.book) (stays d.book after same)

-- ---- what a call says of the network, whatever has happened

module _ (t : Tables) (b : Book) (same : b.tables ≡ t) (c : ℕ) where
  pub there : (is_end : ChannelSpec → Bool) (is : Bool) → is_end (channel_at b.tables c) ≡ is
      → is_end (channel_at t c) ≡ is
  there is_end is h = subst (λ u. is_end (channel_at u c) ≡ is) same h

  pub feed_refused : (item : ℤ) (bound : ℕ) (cause : Refused) → RefusesFeed c item bound b cause
      → MayRefuseFeed (is_source (channel_at t c)) item cause
  feed_refused item bound NoSuchEnd h = there is_source false h
  feed_refused item bound SourceClosed h = there is_source true h.0
  feed_refused item bound (Full v) h = (there is_source true h.0.source, h.2)
  feed_refused item bound NoMemory h = there is_source true h.0.source
  feed_refused item bound other h = absurd h

  pub close_refused : (cause : Refused) → RefusesClose c b cause → MayRefuseEnd (is_source (channel_at t c)) cause
  close_refused NoSuchEnd h = there is_source false h
  close_refused NoMemory h = there is_source true h.source
  close_refused other h = absurd h

  pub take_refused : (cause : Refused) → RefusesTake c b cause → MayRefuseTake (is_sink (channel_at t c)) cause
  take_refused NoSuchEnd h = there is_sink false h
  take_refused SinkLeft h = there is_sink true h.0
  take_refused NoMemory h = there is_sink true h.0.sink
  take_refused other h = absurd h

  pub leave_refused : (cause : Refused) → RefusesLeave c b cause → MayRefuseEnd (is_sink (channel_at t c)) cause
  leave_refused NoSuchEnd h = there is_sink false h
  leave_refused NoMemory h = there is_sink true h.sink
  leave_refused other h = absurd h

-- ---- the lists of the seats

-- a list and more begins with it
pub begins : (xs more ys : List ℤ) → ys ≡ xs ++ more → IsPrefix xs ys
begins xs more ys is = IsPrefix-from_rest xs more ys (sym is)
