mod RoomLemmas
mod Beginnings
