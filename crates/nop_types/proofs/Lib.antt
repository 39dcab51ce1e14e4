mod SavedClients
